-- What each call says, beside what it is for.
use Rattle.std.specs.Prelude.{◌≡◌, ◌⊎◌, ◌≤◌, Option, Some, Result, IfOk, OnOk, OnErr, IsTrue}
use Rattle.as2_exchange.specs.State.{State}
use Rattle.as2_records.specs.Standing.{Medium, MoreFaults, Standing}

-- ---- what a stop leaves

-- whatever stops the computer now, what an open finds stands for this state
pub record Lasts {M : Medium} (c : Standing M) (s : State) : Type 0 where
  pub each : (left : M.Remains) → c.may_leave left → M.keeps left s

-- what is left stands for the next state
pub record KeepsNext (M : Medium) (left : M.Remains) (next : Option State) : Type 0 where
  pub state : State
  pub is : next ≡ Some state
  pub keeps : M.keeps left state

-- what a call commits, over open records: the state that is next to each that they stood for
pub record Commits {M : Medium} (next : State → Option State) (old : Standing M) (left : M.Remains) : Type 0 where
  pub was_open : IsTrue old.is_open
  pub stands : (s : State) → old.Rests s → KeepsNext M left (next s)

-- no fault is forgotten, only a fault shuts the records, and a stop leaves what it left before or what the call commits
pub record Survives {M : Medium} (old new : Standing M) (P : M.Remains → Type 0) : Type 0 where
  pub counts : old.faults ≤ new.faults
  pub closes : new.IsClean → IsTrue old.is_open → IsTrue new.is_open ⊎ MoreFaults old.faults new.faults
  pub shield : old.IsShielded → new.IsShielded
  pub crash : new.IsClean → (left : M.Remains) → new.may_leave left → old.may_leave left ⊎ P left

-- ---- calls

-- the records stand for the next state, which lasts where they are open, by the law `rests_last`
pub record Reaches {M : Medium} (c : Standing M) (next : Option State) : Type 0 where
  pub state : State
  pub is : next ≡ Some state
  pub rests : c.Rests state

-- a read: nothing changes, and the answer fits each state that the records stand for
pub record Reads {M : Medium} {A E : Type 0} (fits : State → A → Type 0) (old new : Standing M) (r : Result A E) : Type 0 where
  pub clean : new.IsClean → old.IsClean
  pub was_open : new.IsClean → OnOk r (IsTrue old.is_open)
  pub is_open : new.IsClean → OnOk r (IsTrue new.is_open)
  pub answer : new.IsClean → IfOk r (λ a. (s : State) → old.Rests s → fits s a)
  pub same : new.IsClean → (s : State) → old.Rests s → new.Rests s
  pub crash : Survives old new (Commits Some old)

-- a write: it commits the next state, or fails and leaves the state
pub record Writes {M : Medium} {A E : Type 0} (next : State → Option State) (old new : Standing M) (r : Result A E) : Type 0 where
  pub clean : new.IsClean → old.IsClean
  pub was_open : new.IsClean → OnOk r (IsTrue old.is_open)
  pub is_open : new.IsClean → OnOk r (IsTrue new.is_open)
  pub done : new.IsClean → OnOk r ((s : State) → old.Rests s → Reaches new (next s))
  pub failed : new.IsClean → OnErr r ((s : State) → old.Rests s → new.Rests s)
  pub crash : Survives old new (Commits next old)
