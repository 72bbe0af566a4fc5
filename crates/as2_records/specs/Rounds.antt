-- Records that pass into a round, and out of it.
use Rattle.std.specs.Prelude.{◌≡◌, false, IsTrue}
use Rattle.as2_exchange.specs.State.{State}
use Rattle.as2_records.specs.Standing.{Medium, MoreFaults, Standing}

-- What the records stood for they stand for still, wherever they are seen from. Where they are clean then, they were.
pub record PassesOn {M N : Medium} (old : Standing M) (new : Standing N) : Type 0 where
  pub clean : new.IsClean → old.IsClean
  pub same : new.IsClean → (s : State) → old.Rests s → new.Rests s

-- the records were open, and are open still
abbrev pub StaysOpen : {M N : Medium} → Standing M → Standing N → Type 0
StaysOpen old new = new.IsClean → IsTrue old.is_open × IsTrue new.is_open

-- a round that couldn't be committed: a fault has shut its records
pub record IsLost {M : Medium} (old new : Standing M) : Type 0 where
  pub passes : PassesOn old new
  pub shut : new.IsClean → new.is_open ≡ false
  pub counts : MoreFaults old.faults new.faults
