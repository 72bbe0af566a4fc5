use Rattle.as2_live.proofs.Going.{on_none}
use Rattle.as2_sender.proofs.sender.Sender.seat.Goals as goal

pub returns-in-Line : goal.returns-in-Line
returns-in-Line g c = record { lives = on_none g.K.Records.shows c.args.live.now }
