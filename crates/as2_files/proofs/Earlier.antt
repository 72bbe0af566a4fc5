-- What a connection that has opened on the files of a store of an earlier version stands for, and the state that it has once it is migrated.
use Rattle.std.proofs.Common.{◌≡◌, ◌∙◌, ℕ, true, false, Some, Result, Ok, Err, IfOk, refl, sym, ap, subst, arith}
use Rattle.sqlite_disk.specs.declared.Disk as disk
use Rattle.sqlite_wal.specs.Recovery.{Image}
use Rattle.sqlite_store.specs.declared.store.FileStore.{FileStore}
use Rattle.sqlite.specs.Effect.{Database}
use Rattle.sqlite.specs.Files.{file_state}
use Rattle.sqlite.specs.Held.{Held, state}
use Rattle.sqlite.specs.State.{State as Connected, HasCleanDisk, IsRolledBack, Survives}
use Rattle.sqlite.specs.Store.{Ghosts}
use Rattle.sqlite.proofs.StateLemmas.{survives_then}
use Rattle.sqlite.proofs.Callers.{survives_begin}
use Rattle.as2_exchange.specs.State.{State, Version}
use Rattle.as2_host.specs.Migrating.{migrated_if_first, moved_from}
use Rattle.as2_store.proofs.Querying.{nothing_inside}
use Rattle.as2_store.specs.Calls.{IsGivenBack, IsInside, ReachesTables}
use Rattle.as2_store.specs.Migrating.{RestsAs, migrated_from}
use Rattle.as2_store.specs.Stands.{Holds, Rests, Stands}
use Rattle.as2_store.specs.Tables.{Layout, VersionOne, VersionTwo, VersionThree}
use Rattle.as2_store.specs.Files.{HoldsState}
use Rattle.as2_storage.specs.Files.{HoldsAs, IsSettled, IsSettledFrom}
use Rattle.as2_files.specs.Earlier.{IsEarlier}

-- ---- a store whose log was copied into its file

-- what it stands for is what it stood for as it was opened
pub settled_found : {D E : Type 0} {g : disk.Ghosts D} (before : Held (FileStore D g)) (image : Image) (r : Result (Held (FileStore D g)) E)
    → IfOk r (λ c. HasCleanDisk (file_state c) → IsSettledFrom g before c)
    → (HasCleanDisk (file_state before) → (s : State) → HoldsState image s → Rests (file_state before) s)
    → IfOk r (λ c. HasCleanDisk (file_state c) → (s : State) → Rests (file_state before) s → Rests (file_state c) s)
    → IfOk r (λ c. HasCleanDisk (file_state c) → (s : State) → HoldsState image s → Rests (file_state c) s)
settled_found before image (Ok c) settled found same = λ clean s held. same clean s (found (settled clean).copied.was_clean s held)
settled_found before image (Err e) settled found same = tt

-- in tables of any version
pub settled_earlier : {D E : Type 0} {g : disk.Ghosts D} (before : Held (FileStore D g)) (image : Image) (r : Result (Held (FileStore D g)) E)
    → IfOk r (λ c. HasCleanDisk (file_state c) → IsSettledFrom g before c)
    → (HasCleanDisk (file_state before) → (layout : Layout) (s : State) → HoldsAs layout image s → RestsAs layout (file_state before) s)
    → IfOk r (λ c. HasCleanDisk (file_state c) → (layout : Layout) (s : State) → RestsAs layout (file_state before) s → RestsAs layout (file_state c) s)
    → IfOk r (λ c. HasCleanDisk (file_state c) → (layout : Layout) (s : State) → HoldsAs layout image s → RestsAs layout (file_state c) s)
settled_earlier before image (Ok c) settled found same =
    λ clean layout s held. same clean layout s (found (settled clean).copied.was_clean layout s held)
settled_earlier before image (Err e) settled found same = tt

-- and it was copied
pub settled_any : {D E : Type 0} {g : disk.Ghosts D} (before : Held (FileStore D g)) (r : Result (Held (FileStore D g)) E)
    → IfOk r (λ c. HasCleanDisk (file_state c) → IsSettledFrom g before c) → IfOk r (λ c. HasCleanDisk (file_state c) → IsSettled g c)
settled_any before (Ok c) settled = λ clean. (before, settled clean)
settled_any before (Err e) settled = tt

-- ---- what is counted, and given back

-- a transaction that is given up leaves the tables as they were
pub given_up : {S : Type 0} {held : ℕ} (g : Ghosts S) (old : Held S) (last : Connected) (end : Held S)
    → IsInside held (state g (record old { in_transaction = true })) last
    → Survives last (state g end) (λ _. ⊥)
    → (state g end).in_transaction ≡ false → (HasCleanDisk (state g end) → IsRolledBack last (state g end)) → IsGivenBack (λ _. ⊥) (state g old) (state g end)
given_up g old last end inside survives autocommit back =
    let was : HasCleanDisk (state g end) → HasCleanDisk last = λ clean. omega (arith, survives.clean, clean) in
    record {
      clean = λ clean. inside.clean (was clean);
      autocommit = autocommit;
      was_open = λ clean opened. (inside.kept (was clean)).was_open ((back clean).was_open opened);
      tables = λ clean opened committed.
          let it = back clean in
          let was_open = it.was_open opened in
          let kept = (inside.kept (was clean)).committed was_open ∙ committed in
          ((it.undone opened).0 ∙ kept, (it.undone opened).1 ∙ kept);
      crash = survives_then (state g old) last (state g end) (λ _. ⊥) (λ _. ⊥) (λ _. ⊥) (λ _ db none. absurd none) (λ _ db none. absurd none)
          (survives_begin g old last (λ _. ⊥) inside.survives) survives;
    }

-- what was given back may be given back again
pub back_then : (a b c : Connected) → IsGivenBack (λ _. ⊥) a b → IsGivenBack (λ _. ⊥) b c → IsGivenBack (λ _. ⊥) a c
back_then a b c one two = record {
  clean = λ clean. one.clean (two.clean clean);
  autocommit = two.autocommit;
  was_open = λ clean opened. one.was_open (two.clean clean) (two.was_open clean opened);
  tables = λ clean opened committed.
      let was = one.tables (two.clean clean) (two.was_open clean opened) committed in
      let is = two.tables clean opened (was.1 ∙ sym was.0) in
      (is.0 ∙ was.0, is.1 ∙ was.0);
  crash = survives_then a b c (λ _. ⊥) (λ _. ⊥) (λ _. ⊥) (λ _ db none. absurd none) (λ _ db none. absurd none) one.crash two.crash;
}

-- what wasn't touched is given back
pub back_same : (c : Connected) → c.in_transaction ≡ false → IsGivenBack (λ _. ⊥) c c
back_same c autocommit = record {
  clean = λ clean. clean;
  autocommit = autocommit;
  was_open = λ clean opened. opened;
  tables = λ clean opened committed. (refl, committed);
  crash = (nothing_inside {held = 0} c).survives;
}

-- tables that are given back stand for what they stood for
pub back_as : (layout : Layout) (old new : Connected) (s : State) → IsGivenBack (λ _. ⊥) old new → HasCleanDisk new → RestsAs layout old s
    → RestsAs layout new s
back_as layout old new s back clean rests = record {
  autocommit = back.autocommit;
  stands = λ opened.
      let was = back.was_open clean opened in
      subst (λ (d : Database). Stands layout d s) (sym (back.tables clean opened (rests.committed was)).0) (rests.stands was);
  committed = λ opened.
      let it = back.tables clean opened (rests.committed (back.was_open clean opened)) in
      it.1 ∙ sym it.0;
}

pub back_to : (old new : Connected) (s : State) → IsGivenBack (λ _. ⊥) old new → HasCleanDisk new → Rests old s → Rests new s
back_to old new s back clean rests = record {
  autocommit = back.autocommit;
  stands = λ opened.
      let was = back.was_open clean opened in
      subst (λ (d : Database). Holds d s) (sym (back.tables clean opened (rests.committed was)).0) (rests.stands was);
  committed = λ opened.
      let it = back.tables clean opened (rests.committed (back.was_open clean opened)) in
      it.1 ∙ sym it.0;
  knows = rests.knows;
}

-- ---- the state that is next

-- by the tables of an earlier version, the state has that version
pub moves_to : (layout : Layout) (image : Image) (s : State) → IsEarlier layout → HoldsAs layout image s → migrated_from layout s ≡ Some (migrated_if_first s)
moves_to VersionOne image s earlier held = ap (λ (v : Version). Some (moved_from v s)) (sym held.stands.version)
moves_to (VersionTwo way) image s earlier held = ap (λ (v : Version). Some (moved_from v s)) (sym held.stands.version.version_is)
moves_to (VersionThree way) image s earlier held = absurd earlier

-- and what is reached is the one that is next
some_is : (s t : State) → Some s ≡ Some t → s ≡ t
some_is s t e = cc

pub reaches_moved : (layout : Layout) (image : Image) (c : Connected) (s : State) → IsEarlier layout → HoldsAs layout image s
    → ReachesTables c (migrated_from layout s) → Rests c (migrated_if_first s)
reaches_moved layout image c s earlier held it =
    subst (λ (t : State). Rests c t) (some_is it.state (migrated_if_first s) (sym it.is ∙ moves_to layout image s earlier held)) it.rests
