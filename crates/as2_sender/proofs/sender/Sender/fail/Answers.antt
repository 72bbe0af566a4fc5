use Rattle.as2_live.proofs.Going.{on_none}
use Rattle.as2_sender.proofs.sender.Sender.fail.Goals as goal

pub returns-then-not-may_fail : goal.returns-then-not-may_fail
returns-then-not-may_fail g c = record { lives = on_none g.K.Records.shows c.args.live.now }
