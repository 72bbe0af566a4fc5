use Rattle.as2_live.proofs.Going.{on_none}
use Rattle.as2_sender.proofs.sweep.Sweep.next_anew.Goals as goal

pub returns-in_default : goal.returns-in_default
returns-in_default g c = record { lives = on_none g.K.Records.shows c.args.live.now }
