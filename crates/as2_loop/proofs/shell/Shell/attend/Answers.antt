use Rattle.as2_loop.proofs.GoingOn.{goes_none}
use Rattle.as2_loop.proofs.shell.Shell.attend.Goals as goal

pub returns-in_default : goal.returns-in_default
returns-in_default g c = goes_none g.R.Records.shows c.args.basis.now c.args.live

pub returns-in_default-read_demand : goal.returns-in_default-read_demand
returns-in_default-read_demand g c = goes_none g.R.Records.shows c.args.basis.now c.args.live
