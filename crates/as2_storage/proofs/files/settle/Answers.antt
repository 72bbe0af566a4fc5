use Rattle.sqlite_wal.specs.Reads.{AreClean}
use Rattle.as2_storage.proofs.Opening.{settled_as, settled_rests}
use Rattle.as2_storage.proofs.files.settle.Goals as goal

pub returns-in-Ok-open_files_with-clause-settled : goal.returns-in-Ok-open_files_with-clause-settled
returns-in-Ok-open_files_with-clause-settled g c clean =
    let finds = c.in-Ok-open_files_with.ensures.found clean in
    record { files = c.in-Ok.files; copied = c.in-Ok.ensures.copied finds.honest; finds = finds }

pub returns-in-Ok-open_files_with-clause-same : goal.returns-in-Ok-open_files_with-clause-same
returns-in-Ok-open_files_with-clause-same g c clean =
    let finds = c.in-Ok-open_files_with.ensures.found clean in
    let opened = c.in-Ok-open_files_with.ensures.opened clean in
    settled_rests c.args.conn c.in-Ok-open_files_with.conn
    (record { files = c.in-Ok.files; copied = c.in-Ok.ensures.copied finds.honest; finds = finds }) opened.0 opened.1

pub returns-in-Ok-open_files_with-clause-any_version : goal.returns-in-Ok-open_files_with-clause-any_version
returns-in-Ok-open_files_with-clause-any_version g c clean =
    let finds = c.in-Ok-open_files_with.ensures.found clean in
    let opened = c.in-Ok-open_files_with.ensures.opened clean in
    settled_as c.args.conn c.in-Ok-open_files_with.conn
    (record { files = c.in-Ok.files; copied = c.in-Ok.ensures.copied finds.honest; finds = finds }) opened.0 opened.1
