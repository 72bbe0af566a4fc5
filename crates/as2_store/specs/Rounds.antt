-- Calls within a round: what they write is committed with the round, all at once.
use Rattle.std.specs.Prelude.{◌≡◌, ◌+◌, ◌&&◌, Bool, true, false, if◌then◌else◌, Option, Result, OnOk, OnErr, IsTrue}
use Rattle.sqlite.specs.State.{State as Connected, HasCleanDisk, Survives}
use Rattle.as2_exchange.specs.State.{State}
use Rattle.as2_store.specs.Calls.{ReadsTables, WritesTables}
use Rattle.as2_store.specs.Stands.{Rests}

-- A connection as it is seen within a round: as if what was written were committed. A round whose transaction has ended is lost: it is seen
-- as shut, by one fault more.
abbrev pub in_round : Connected → Connected
in_round c = record c {
  committed = c.now;
  in_transaction = false;
  is_open = c.is_open && c.in_transaction;
  faults = if c.in_transaction then c.faults else c.faults + 1;
  may_leave = λ db. IsTrue (c.is_open && c.in_transaction) × (db ≡ c.now.trees);
}

-- A call outside a round does this. Within one it does this as it is seen there, and commits nothing.
pub record ByMode (Does : Connected → Connected → Type 0) (old new : Connected) : Type 0 where
  pub alone : old.in_transaction ≡ false → Does old new
  pub ends : HasCleanDisk new → old.in_transaction ≡ false → new.in_transaction ≡ false
  pub within : IsTrue old.in_transaction → Does (in_round old) (in_round new)
  pub uncommitted : IsTrue old.in_transaction → Survives old new (λ _. ⊥)

-- a read, alone or within a round
abbrev pub ReadsBy : {A E : Type 0} → (State → A → Type 0) → Connected → Connected → Result A E → Type 0
ReadsBy fits old new r = ByMode (λ o n. ReadsTables fits o n r) old new

-- a write
abbrev pub WritesBy : {A E : Type 0} → (State → Option State) → Connected → Connected → Result A E → Type 0
WritesBy next old new r = ByMode (λ o n. WritesTables next o n r) old new

-- A round begins: the tables stay as they are, and nothing is committed. Or none begins, and the tables stand for what they stood for.
pub record BeginsRound {A E : Type 0} (old new : Connected) (r : Result A E) : Type 0 where
  pub clean : HasCleanDisk new → HasCleanDisk old
  pub was_open : HasCleanDisk new → OnOk r (IsTrue old.is_open)
  pub begun : HasCleanDisk new → OnOk r (IsTrue (in_round new).is_open × (new.now ≡ old.now))
  pub refused : HasCleanDisk new → OnErr r ((s : State) → Rests old s → Rests new s)
  pub survives : Survives old new (λ _. ⊥)

-- A round ends: what was seen is committed. Or that fails, and it is lost.
pub record CommitsRound {A E : Type 0} (old new : Connected) (r : Result A E) : Type 0 where
  pub clean : HasCleanDisk new → HasCleanDisk old
  pub was_open : HasCleanDisk new → OnOk r (IsTrue (in_round old).is_open)
  pub is_open : HasCleanDisk new → OnOk r (IsTrue new.is_open)
  pub done : HasCleanDisk new → OnOk r ((s : State) → Rests (in_round old) s → Rests new s)
  pub ended : HasCleanDisk new → OnOk r (new.in_transaction ≡ false)
  pub survives : Survives old new (λ db. db ≡ old.now.trees)
