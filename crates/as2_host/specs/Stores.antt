-- What the opening of a store comes to.
use Rattle.std.specs.Prelude.{◌≡◌, ℕ, Bool, Result, Ok, Err, IsTrue, true, false, ⊤}
use Rattle.as2_exchange.specs.State.{LaterVersion, State, empty}
use Rattle.as2_records.specs.Standing.{Medium, Standing, may_come}
use Rattle.as2_host.specs.declared.stores.OpenFault.{OpenFault}
use Rattle.as2_host.specs.declared.stores.OpenFault.TheVariants as open_fault

-- The fault is a store's own, and may come of any call. It isn't that another process has the file, that a log stands
-- alone, or that a path can't be opened.
abbrev pub MayCome : OpenFault → Type 0
MayCome open_fault.Held = ⊥
MayCome open_fault.LogAlone = ⊥
MayCome (open_fault.Path fault) = ⊥
MayCome (open_fault.Store fault) = may_come fault ≡ true

-- how many stores were opened by that
abbrev pub opens_of : {A E : Type 0} → Result A E → ℕ
opens_of (Ok records) = 1
opens_of (Err fault) = 0

-- how many were, where one may have been opened
abbrev pub opens_by : Bool → ℕ
opens_by true = 1
opens_by false = 0

module _ {A : Type 0} {M : Medium} (shows : A → Standing M) where
  -- whatever happens to them, records return what was written
  abbrev pub IsFaithful : Type 0
  IsFaithful = (records : A) → (shows records).IsClean

  -- records were opened: on a medium that has returned what was written, they are open, and stand for what was kept
  abbrev pub Finds : (State → Type 0) → Result A OpenFault → Type 0
  Finds Keeps (Ok records) = (shows records).IsClean → IsTrue (shows records).is_open × ((s : State) → Keeps s → (shows records).Rests s)
  Finds Keeps (Err fault) = ⊤

  -- new records were opened, without entries and with this first number; or a fault came that may come of any call
  abbrev pub BeginsNew : ℕ → Result A OpenFault → Type 0
  BeginsNew first (Ok records) = IsFaithful × IsTrue (shows records).is_open × (shows records).Rests (empty (LaterVersion 0) first)
  BeginsNew first (Err fault) = MayCome fault
