use Rattle.as2_exchange.proofs.Steady.{run_version}
use Rattle.as2_exchange.proofs.versions_change_by_migration.Goals as goal

pub returns : goal.returns
returns c = run_version
