use Rattle.as2_live.proofs.Going.{on_none}
use Rattle.as2_sender.proofs.sender.Sender.seek.Goals as goal

pub returns-in_default : goal.returns-in_default
returns-in_default g c = record { lives = on_none g.K.Records.shows c.args.live.now }

pub returns-then-not-may_open : goal.returns-then-not-may_open
returns-then-not-may_open g c = record { lives = on_none g.K.Records.shows c.args.live.now }
