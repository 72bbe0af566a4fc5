use Rattle.std.proofs.Common.{◌∙◌}
use Rattle.as2_hub.specs.Places.{places}
use Rattle.as2_hub.specs.Rounds.{scene}
use Rattle.as2_hub.proofs.Calling.{round_settled}
use Rattle.as2_hub.proofs.Within.{bounded_less, less_then}
use Rattle.as2_hub.proofs.hub.Hub.round.Goals as goal

pub returns-clause-settles : goal.returns-clause-settles
returns-clause-settles g c =
    round_settled g.D.Desk.conduct (scene c.args.desk.now c.args.self.now) (scene c.ask_all.new.desk c.ask_all.new.self)
    (scene c.settle-is_kept.new.self c.settle_all.new.self) c.args.ready.now c.settle-is_kept.result
    c.ask_all.ensures.asks c.settle-is_kept.ensures.rests c.settle-is_kept.ensures.kept c.settle-is_kept.ensures.may_lose c.settle-is_kept.ensures.keeps
    c.settle_all.ensures.kept c.settle_all.ensures.waits

pub returns-clause-bounded : goal.returns-clause-bounded
returns-clause-bounded g c =
    bounded_less c.args.self.now c.settle_all.new.self (c.settle_all.ensures.bounds ∙ c.ask_all.ensures.bounds)
    (less_then (places c.args.self.now) (places c.ask_all.new.self) (places c.settle_all.new.self) c.ask_all.ensures.unread
    c.settle_all.ensures.unread)
