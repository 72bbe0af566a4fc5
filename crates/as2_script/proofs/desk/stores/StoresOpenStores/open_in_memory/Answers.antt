use Rattle.as2_script.proofs.Reached.{begins_new}
use Rattle.as2_script.proofs.desk.stores.StoresOpenStores.open_in_memory.Goals as goal

pub returns : goal.returns
returns c = begins_new c.args.first c.made.result c.made.ensures.is_open c.made.ensures.fresh c.made.ensures.fault
