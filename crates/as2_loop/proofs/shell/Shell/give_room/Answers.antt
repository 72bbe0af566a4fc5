use Rattle.as2_live.proofs.Going.{on_none}
use Rattle.as2_loop.proofs.shell.Shell.give_room.Goals as goal

pub returns-then-not-self : goal.returns-then-not-self
returns-then-not-self g c = record { lives = on_none g.K.Records.shows c.args.live.now }

pub returns-in_default : goal.returns-in_default
returns-in_default g c = record { lives = on_none g.K.Records.shows c.args.live.now }
