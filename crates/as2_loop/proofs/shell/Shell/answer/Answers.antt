use Rattle.as2_live.proofs.Going.{on_none}
use Rattle.as2_loop.proofs.shell.Shell.answer.Goals as goal

-- nothing happened
pub returns-else-not-is_empty : goal.returns-else-not-is_empty
returns-else-not-is_empty g c = record { lives = on_none g.K.Records.shows c.args.live.now }
