-- What records show of themselves, whatever they lie on.
use Rattle.std.specs.Prelude.{◌≡◌, ℕ, ◌+◌, ◌-◌, ◌^◌, ◌≤◌, min, Bool, true, false, IsTrue, map}
use Rattle.as2_exchange.specs.State.{AllDigests, State, state_digests}
use Rattle.as2_exchange.specs.Invariants.{IsCounter, AreNumbers}
use Rattle.as2_exchange.specs.declared.fault.StoreFault.{StoreFault}
use Rattle.as2_exchange.specs.declared.fault.StoreFault.TheVariants.{Memory, Disk, Refused, Damaged, Full, NotAStore, OtherVersion}

-- the counters are above all numbers, and no number is given twice
pub record IsCounted (s : State) : Type 0 where
  pub receipts : IsCounter s.next_in × AreNumbers s.next_in (map (λ e. e.number) s.inbox)
  pub documents : IsCounter s.next_out × AreNumbers s.next_out (map (λ d. d.number) s.outbox)

-- what records lie on
pub record Medium : Type 1 where
  -- what a stop of the computer may leave
  pub Remains : Type 0
  -- what is left stands for this state, and for no other
  pub keeps : Remains → State → Type 0
  pub keeps_counted : (left : Remains) (s : State) → keeps left s → IsCounted s
  pub keeps_one : (left : Remains) (s t : State) → keeps left s → keeps left t → s ≡ t
  -- a stop of the computer leaves something of open records, as the law `stop_leaves` says; memory alone keeps nothing over a stop
  pub is_lasting : Bool

-- records at one moment
pub record Standing (M : Medium) : Type 1 where
  -- so far the medium has returned what was written
  pub IsClean : Type 0
  pub is_open : Bool
  -- how many times the medium has failed or refused
  pub faults : ℕ
  -- each later read is tested against a digest
  pub IsShielded : Type 0
  -- outside a call they stand for this state, unless a fault has shut them
  pub Rests : State → Type 0
  -- it is one of a version that knows each digest
  pub knows : (s : State) → Rests s → state_digests s ≡ AllDigests
  -- what an open after a stop at this moment may find
  pub may_leave : M.Remains → Type 0
  pub counted : IsTrue is_open → (s : State) → Rests s → IsCounted s

-- the count of faults rose, unless it is at the top of a `u64`
abbrev pub MoreFaults : ℕ → ℕ → Type 0
MoreFaults old new = min (old + 1) (2 ^ 64 - 1) ≤ new

-- a fault of memory, of the medium or of the records themselves, which may come from any call
abbrev pub may_come : StoreFault → Bool
may_come Memory = true
may_come Disk = true
may_come Refused = true
may_come (Damaged place) = true
may_come Full = false
may_come NotAStore = false
may_come OtherVersion = false
