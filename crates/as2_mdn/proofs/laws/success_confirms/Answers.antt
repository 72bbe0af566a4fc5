use Rattle.as2_mdn.proofs.Confirming.{confirmed}
use Rattle.as2_mdn.proofs.laws.success_confirms.Goals as goal

pub returns : goal.returns
returns c = confirmed
