use Rattle.std.proofs.Common.{◌≡◌, true, Some, subst}
use Rattle.as2_exchange.specs.declared.event.Event.TheVariants as event
use Rattle.as2_station.proofs.ByHistory.{takes_event}
use Rattle.as2_station.specs.Steps.{Does, always}
use Rattle.as2_exchange.specs.Documents.{tick}
use Rattle.as2_exchange.specs.declared.answer.Answer.TheVariants.{Ticked}
use Rattle.as2_station.proofs.station.Station.tick.Goals as goal

pub returns : goal.returns
returns g c = record {
  taken =
      let new = g.R.Records.shows c.tick.new.records in
      takes_event c.args.agreements.now (event.Tick c.args.moment) Ticked _ new c.tick.result
      (subst (λ (h : g.row.R.Denot). Does (λ s. Some (tick c.args.moment s)) always (true ≡ true) Ticked
      (g.R.Records.shows h) new c.tick.result) c.self.view_is c.tick.ensures.taken)
      (g.met.R.Records.rests_last c.tick.new.records)
      (λ head body moment is. absurd (let other = is in cc));
}
