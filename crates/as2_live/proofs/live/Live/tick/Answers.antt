use Rattle.std.proofs.Common.{refl, ap}
use Rattle.as2_exchange.specs.declared.answer.Answer.TheVariants.{Ticked}
use Rattle.as2_exchange.specs.declared.event.Event.TheVariants.{Tick}
use Rattle.as2_station.specs.Theorem.{said_as}
use Rattle.as2_front.specs.declared.desk.StationDesk.{StationDesk}
use Rattle.as2_live.proofs.Going.{ticked, took}
use Rattle.as2_live.proofs.live.Live.tick.Goals as goal

pub returns-clause-ticks : goal.returns-clause-ticks
returns-clause-ticks g c =
    let old = c.args.self.now in
    let new = c.tick.new.self in
    ticked g.K.Records.shows old (record old { desk = new }) refl (ap (λ (d : StationDesk g.row.K.Denot). d.agreements.now) c.tick.ensures.same)
    c.tick.ensures.taken.does.clean c.args.moment (said_as Ticked c.tick.result)
    (took old.desk.agreements.now (Tick c.args.moment) Ticked _ _ c.tick.result c.tick.ensures.taken) refl

pub returns-clause-fault : goal.returns-clause-fault
returns-clause-fault g c = c.tick.ensures.taken.does.fault
