use Rattle.as2_restart.proofs.Lives.{successful}
use Rattle.as2_restart.proofs.laws.success_stays.Goals as goal

pub returns : goal.returns
returns c = successful
