use Rattle.as2_live.proofs.Going.{on_none}
use Rattle.as2_sender.proofs.sender.Sender.aim.Goals as goal

pub returns-in-Later : goal.returns-in-Later
returns-in-Later g c = record { lives = on_none g.K.Records.shows c.args.live.now }
