use Rattle.std.proofs.Common.{ℕ, List, Option, subst, sym, ◌∙◌}
use Rattle.as2_store.specs.Files.{HoldsState}
use Rattle.as2_files.specs.Names.{file_name}
use Rattle.as2_files.specs.Stores.{FilesKeep, leaves_by}
use Rattle.as2_files.specs.declared.keeping.End.{End}
use Rattle.as2_files.proofs.stores.StoreFilesOpenStores.open.Goals as goal

-- it wasn't closed, so what is kept is what its files hold as they are opened, which are those of the path
pub returns-clause-found : goal.returns-clause-found
returns-clause-found g c = λ clean.
    let found = (rw c.in-Ok.is at c.open_records.ensures.found) clean in
    let at = file_name c.args.path.now in (
      found.0,
      λ s kept. found.1 s (subst (λ (name : List ℕ). HoldsState (g.K.KeepFiles.image name) s) (sym (c.name.ensures ∙ c.in_ok-place.ensures))
          (subst (λ (end : Option (End g.row.K-Disk.Denot)). FilesKeep g.K.Disk.Disk
          (leaves_by g.R.Records.shows g.K.KeepFiles.left_of g.R.Round.Records.shows g.K.KeepFiles.lost_of)
          (g.K.KeepFiles.image at) end s) c.in-None.is kept)),
    )
