use Rattle.as2_audit.proofs.Passed.{passed}
use Rattle.as2_audit.proofs.laws.passed_success_is_confirmed.Goals as goal

pub returns : goal.returns
returns c = passed
