use Rattle.as2_files.proofs.Reached.{begins_new}
use Rattle.as2_files.proofs.stores.StoreFilesOpenStores.open_in_memory.Goals as goal

pub returns : goal.returns
returns g c = begins_new c.args.first c.new_in_memory.result c.new_in_memory.ensures.is_open c.new_in_memory.ensures.fresh c.new_in_memory.ensures.fault
