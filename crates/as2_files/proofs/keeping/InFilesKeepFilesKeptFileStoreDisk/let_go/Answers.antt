use Rattle.std.proofs.Common.{◌∙◌, ℕ, zero, suc, sym, subst}
use Rattle.sqlite.specs.Files.{file_state}
use Rattle.sqlite.specs.Held.{Held}
use Rattle.sqlite.specs.State.{State as Connected, HasCleanDisk}
use Rattle.sqlite_store.specs.declared.store.FileStore.{FileStore}
use Rattle.as2_kept.specs.Round.{seen}
use Rattle.as2_storage.specs.Files.{AreLeftBy}
use Rattle.as2_files.proofs.keeping.InFilesKeepFilesKeptFileStoreDisk.let_go.Goals as goal

clean_seen : (n : ℕ) (c : Connected) → HasCleanDisk c → HasCleanDisk (seen n c)
clean_seen zero c clean = clean
clean_seen (suc n) c clean = clean

pub returns-clause-clean : goal.returns-clause-clean
returns-clause-clean g c honest =
    clean_seen c.args.round.failures (file_state c.args.round.store)
    (subst (λ (h : Held (FileStore g.row.F-Disk.Denot g.F.Disk.Disk)). HasCleanDisk (file_state h)) (c.into_connection.ensures ∙ c.into_store.ensures)
    (c.let_go.ensures.unclosed honest))

-- the files are those of the store that the round was in
pub returns-clause-lost : goal.returns-clause-lost
returns-clause-lost g c =
    subst (λ (h : Held (FileStore g.row.F-Disk.Denot g.F.Disk.Disk)). AreLeftBy g.F.Disk.Disk h c.let_go.result)
    (c.into_connection.ensures ∙ c.into_store.ensures) c.let_go.ensures.left
