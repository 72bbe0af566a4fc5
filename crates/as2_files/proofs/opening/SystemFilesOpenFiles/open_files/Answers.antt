use Rattle.sqlite.specs.Files.{file_state}
use Rattle.sqlite_wal.specs.Files.{image_at}
use Rattle.as2_storage.proofs.Opening.{rests_held_as}
use Rattle.as2_files.proofs.Earlier.{settled_any, settled_earlier, settled_found}
use Rattle.as2_files.proofs.opening.SystemFilesOpenFiles.open_files.Goals as goal

-- what it finds there is the whole of what it shows
pub returns-then-not-settles-clause-any_version : goal.returns-then-not-settles-clause-any_version
returns-then-not-settles-clause-any_version g c clean layout s held =
    let it = c.in-Ok.ensures.opened clean in
    rests_held_as layout (file_state c.in-Ok.conn) (image_at g.S.Start) s it.0 it.1 (c.in-Ok.ensures.finds clean).holds held

-- so it is once what a log held was copied
pub returns-in-Ok-options-clause-found : goal.returns-in-Ok-options-clause-found
returns-in-Ok-options-clause-found g c =
    settled_found c.in-Ok.conn (image_at g.S.Start) c.settle.result c.settle.ensures.settled c.in-Ok.ensures.found c.settle.ensures.same

pub returns-in-Ok-options-clause-any_version : goal.returns-in-Ok-options-clause-any_version
returns-in-Ok-options-clause-any_version g c =
    settled_earlier c.in-Ok.conn (image_at g.S.Start) c.settle.result c.settle.ensures.settled
    (λ clean layout s held.
    let it = c.in-Ok.ensures.opened clean in
    rests_held_as layout (file_state c.in-Ok.conn) (image_at g.S.Start) s it.0 it.1 (c.in-Ok.ensures.finds clean).holds held)
    c.settle.ensures.any_version

pub returns-in-Ok-options-clause-settled : goal.returns-in-Ok-options-clause-settled
returns-in-Ok-options-clause-settled g c is = settled_any c.in-Ok.conn c.settle.result c.settle.ensures.settled
