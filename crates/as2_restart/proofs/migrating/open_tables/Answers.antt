use Rattle.sqlite.specs.Files.{file_state, image_of}
use Rattle.as2_storage.proofs.Opening.{rests_held_as}
use Rattle.as2_restart.proofs.migrating.open_tables.Goals as goal

pub returns-in-Ok-clause-clean : goal.returns-in-Ok-clause-clean
returns-in-Ok-clause-clean g c clean = (c.in-Ok.ensures.found clean).honest

pub returns-in-Ok-clause-open : goal.returns-in-Ok-clause-open
returns-in-Ok-clause-open g c clean = (c.in-Ok.ensures.opened clean).0.is_open

pub returns-in-Ok-clause-any_version : goal.returns-in-Ok-clause-any_version
returns-in-Ok-clause-any_version g c clean layout s held =
    let opened = c.in-Ok.ensures.opened clean in
    rests_held_as layout (file_state c.in-Ok.conn) (image_of g.D.Disk c.args.files) s opened.0 opened.1 (c.in-Ok.ensures.found clean).holds held
