use Rattle.std.proofs.Common.{IfOk}
use Rattle.std.proofs.lemmas.Result.{IfOk-weaker}
use Rattle.sqlite.specs.Files.{file_state}
use Rattle.sqlite.specs.State.{HasCleanDisk}
use Rattle.sqlite_wal.specs.Reads.{AreClean}
use Rattle.as2_restart.proofs.files.shut.Goals as goal

pub returns-clause-clean : goal.returns-clause-clean
returns-clause-clean g c =
    let was : IfOk c.close.result (λ files. AreClean g.D.Disk files.log files.db → HasCleanDisk (file_state c.into_connection.result)) =
    IfOk-weaker c.close.result _ _ (λ files copied clean. (copied clean).was_clean) c.close.ensures.copied in
    rw (c.into_connection.ensures, c.into_records.ensures) at was

pub returns-clause-closed : goal.returns-clause-closed
returns-clause-closed g c = rw (c.into_connection.ensures, c.into_records.ensures) at c.close.ensures.closed

pub returns-clause-shield : goal.returns-clause-shield
returns-clause-shield g c = rw (c.into_connection.ensures, c.into_records.ensures) at c.close.ensures.shield
