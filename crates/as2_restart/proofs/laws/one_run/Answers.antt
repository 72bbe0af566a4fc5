use Rattle.as2_restart.proofs.Lives.{one, one_by_history}
use Rattle.as2_restart.proofs.laws.one_run.Goals as goal

pub returns-clause-run : goal.returns-clause-run
returns-clause-run c = one

pub returns-clause-by_history : goal.returns-clause-by_history
returns-clause-by_history c = one_by_history
