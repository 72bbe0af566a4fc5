use Rattle.std.proofs.Common.{refl, subst}
use Rattle.as2_hub.specs.Rounds.{SettlesRound, scene}
use Rattle.as2_front.specs.Answers.{conduct_by}
use Rattle.as2_front.specs.declared.desk.StationDesk.{StationDesk}
use Rattle.as2_live.proofs.Steps.{answered}
use Rattle.as2_live.proofs.live.Live.answer.Goals as goal

pub returns : goal.returns
returns g c = record {
  answers = answered g.K.Records.shows c.args.self.now (record { hub = c.round.new.self; desk = c.round.new.desk; links = c.args.self.now.links })
      c.args.moment refl c.args.ready.now
      c.round.result
      (subst (λ (d : StationDesk g.row.K.Denot). SettlesRound (conduct_by g.K.Records.shows) c.args.ready.now (scene d c.args.self.now.hub)
      (scene c.round.new.desk c.round.new.self) c.round.result) c.set_moment.ensures c.round.ensures.settles)
      c.round.ensures.bounded;
}
