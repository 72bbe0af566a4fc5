use Rattle.sqlite.proofs.Callers.{memory_is_clean}
use Rattle.as2_script.proofs.desk.stores.bare.Goals as goal

pub returns-in-Ok-adopt : goal.returns-in-Ok-adopt
returns-in-Ok-adopt c = c.in-Ok-adopt.ensures.adopted.is_open (memory_is_clean c.in-Ok-adopt.records)
