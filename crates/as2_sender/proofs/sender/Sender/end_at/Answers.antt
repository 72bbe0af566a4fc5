use Rattle.as2_live.proofs.Going.{on_none}
use Rattle.as2_sender.proofs.sender.Sender.end_at.Goals as goal

-- nothing happened
pub returns-in_default : goal.returns-in_default
returns-in_default g c = record { lives = on_none g.K.Records.shows c.args.live.now }

pub returns-in_default-over : goal.returns-in_default-over
returns-in_default-over g c = record { lives = on_none g.K.Records.shows c.args.live.now }

pub returns-in_default-2 : goal.returns-in_default-2
returns-in_default-2 g c = record { lives = on_none g.K.Records.shows c.args.live.now }
