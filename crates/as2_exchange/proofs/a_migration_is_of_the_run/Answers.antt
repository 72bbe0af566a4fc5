use Rattle.as2_exchange.proofs.Migrations.{run_then_migrated}
use Rattle.as2_exchange.proofs.a_migration_is_of_the_run.Goals as goal

pub returns-clause-run : goal.returns-clause-run
returns-clause-run c = run_then_migrated
