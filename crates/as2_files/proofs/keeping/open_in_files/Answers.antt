use Rattle.sqlite.specs.Files.{file_state}
use Rattle.as2_files.proofs.Reached.{reached}
use Rattle.as2_files.proofs.keeping.open_in_files.Goals as goal

-- what was found there is a store's
pub returns-in-Ok-adopt : goal.returns-in-Ok-adopt
returns-in-Ok-adopt g c = λ clean.
    let adopted = c.in-Ok-adopt.ensures.adopted in
    (adopted.is_open clean, λ s held. reached (file_state c.in-Ok-adopt.records) s (adopted.done clean s (c.in-Ok.ensures.found (adopted.clean clean) s held)))
