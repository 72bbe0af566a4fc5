use Rattle.sqlite_wal.specs.Files.{image_at}
use Rattle.sqlite.specs.Files.{file_state}
use Rattle.as2_storage.proofs.Opening.{rests_held}
use Rattle.as2_storage.proofs.files.open_at.Goals as goal

pub returns-in-Ok-clause-found : goal.returns-in-Ok-clause-found
returns-in-Ok-clause-found g c clean s held =
    let opened = c.in-Ok.ensures.opened clean in
    rests_held (file_state c.in-Ok.conn) (image_at g.S.Start) s opened.0 opened.1 (c.in-Ok.ensures.found clean).holds held
