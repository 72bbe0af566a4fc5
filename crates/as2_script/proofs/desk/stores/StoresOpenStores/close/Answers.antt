use Rattle.sqlite.proofs.Callers.{memory_is_clean}
use Rattle.as2_script.proofs.desk.stores.StoresOpenStores.close.Goals as goal

pub returns-clause-clean : goal.returns-clause-clean
returns-clause-clean c = λ _. memory_is_clean c.args.records
