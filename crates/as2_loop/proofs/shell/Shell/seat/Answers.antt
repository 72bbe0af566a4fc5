use Rattle.as2_live.proofs.Going.{on_none}
use Rattle.as2_loop.proofs.shell.Shell.seat.Goals as goal

pub returns-then-is_err : goal.returns-then-is_err
returns-then-is_err g c = record { lives = on_none g.K.Records.shows c.args.live.now }

pub returns-in_default : goal.returns-in_default
returns-in_default g c = record { lives = on_none g.K.Records.shows c.args.live.now }
