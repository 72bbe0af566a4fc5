-- What a crash leaves of the files of a store, and what is found once they are opened again.
use Rattle.std.proofs.Common.{◌≡◌, Option, Some, None, IfSome, IsTrue, sym, subst}
use Rattle.sqlite_disk.specs.declared.Disk as disk
use Rattle.sqlite_wal.specs.Recovery.{Image}
use Rattle.sqlite_wal.specs.Files.{outcomes}
use Rattle.sqlite_wal.specs.Reads.{AreClean}
use Rattle.sqlite_pool.proofs.StateLemmas.{may_leave_is}
use Rattle.sqlite_store.specs.FileStore.{view, recovers, files as store_files}
use Rattle.sqlite_store.specs.declared.store.FileStore.{FileStore}
use Rattle.sqlite_trees.specs.Tree.{Trees}
use Rattle.sqlite.specs.State.{State as Connected}
use Rattle.sqlite.specs.Held.{AreDatabases}
use Rattle.sqlite.specs.Files.{HoldsDatabase}
use Rattle.sqlite.proofs.Theorems.{opens_again}
use Rattle.as2_exchange.specs.State.{State}
use Rattle.as2_store.specs.Calls.{ReachesTables}
use Rattle.as2_restart.specs.Restarts.{IsHeld}

-- ---- a crash

-- what the files hold where a crash has left one of the outcomes of a store
pub found_after : {D : Type 0} {g : disk.Ghosts D} (last : FileStore D g) (log db : D) → store_files last ≡ (log, db) → AreClean g log db
    → IsTrue (view last).is_numbered → AreDatabases (recovers last)
    → (left : Image) → outcomes g log db left → ∥ ((trees : Trees) × recovers last trees × HoldsDatabase left trees) ∥₁
found_after {g} last log db same clean numbered sound left may =
    let honest = subst (λ p. AreClean g p.0 p.1) (sym same) clean in
    let at = subst (λ p. outcomes g p.0 p.1 left) (sym same) may in
    opens_again last numbered sound left (may_leave_is last.pool left honest at)

-- ---- an adoption

some_is : (s t : State) → Some s ≡ Some t → s ≡ t
some_is s t e = cc

pub holds : (c : Connected) (s : State) → ReachesTables c (Some s) → IsHeld c s
holds c s it = subst (IsHeld c) (sym (some_is s it.state it.is)) (record { rests = it.rests; lasts = it.lasts })

-- ---- what is found, if anything is

pub of_both : {X : Type 0} {P Q R : X → Type 0} → ((x : X) → P x → Q x → R x) → (o : Option X) → IfSome o P → IfSome o Q → IfSome o R
of_both f None p q = tt
of_both f (Some x) p q = f x p q
