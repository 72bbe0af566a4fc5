use Rattle.std.proofs.Common.{ℕ, sym, subst}
use Rattle.sqlite.specs.Files.{file_state}
use Rattle.sqlite.specs.State.{HasCleanDisk}
use Rattle.as2_store.specs.Calls.{empty_store}
use Rattle.as2_store.specs.Stands.{Rests}
use Rattle.as2_files.proofs.Reached.{reached}
use Rattle.as2_files.proofs.closing.with_tables.Goals as goal

-- what was made was closed
pub returns-in-Ok-close : goal.returns-in-Ok-close
returns-in-Ok-close g c = record {
  made = λ honest blank.
      let records = c.in-Ok.records in
      let clean : HasCleanDisk (file_state records) = rw (sym c.into_connection.ensures) (c.in-Ok-close.ensures.clean honest) in
      let rests = subst (λ (n : ℕ). Rests (file_state records) (empty_store n)) c.get.ensures.value
      (reached (file_state records) (empty_store c.get.result) (c.in-Ok.ensures.created.done clean blank)) in
      c.in-Ok-close.ensures.closed honest (empty_store c.args.first) (rw c.into_connection.ensures rests);
}
