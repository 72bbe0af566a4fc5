-- What the two files of a store hold behind a list of events, once it has been closed or was stopped.
use Rattle.std.specs.Prelude.{◌⊎◌, List, ℕ}
use Rattle.sqlite_disk.specs.Events.{Event, HasCollision, replay}
use Rattle.sqlite_disk.specs.declared.Disk.{Ghosts}
use Rattle.sqlite_disk.specs.declared.Files.{Files}
use Rattle.sqlite_wal.specs.Files.{outcomes}
use Rattle.sqlite_wal.specs.Recovery.{Image}
use Rattle.sqlite_store.specs.declared.store.FileStore.{FileStore}
use Rattle.sqlite.specs.Held.{Held}
use Rattle.as2_exchange.specs.Agreement.{Agreements}
use Rattle.as2_exchange.specs.Run.{Run, Trace}
use Rattle.as2_exchange.specs.State.{State}
use Rattle.as2_store.specs.Files.{HoldsState}
use Rattle.as2_station.specs.Theorem.{EndsByHistory}
use Rattle.as2_storage.specs.Files.{AreClosed}
use Rattle.as2_restart.specs.Restarts.{ComesTo}

-- whatever stops the computer now, what was told leads to a state that the files hold then
abbrev pub AreLeft : {D : Type 0} → Ghosts D → Files D → Agreements → Trace → State → Type 0
AreLeft g files A told s = (image : Image) → outcomes g files.log files.db image → ∥ ((t : State) × ComesTo A told s t × HoldsState image t) ∥₁

-- what was told leads to the state that the files hold, and what stands of each document is its history; the store names their disk
pub record EndsInFiles {D : Type 0} {g : Ghosts D} (A : Agreements) (told : Trace) (s : State) (store : Held (FileStore D g)) (files : Files D) : Type 0 where
  pub state : State
  pub run : Run A s told state
  pub by_history : EndsByHistory A s told state
  pub closed : AreClosed g files state

-- a read of either file gave other bytes than were written, with their digest, under the key of the log; by what the files held
-- before the first call, and by their calls
abbrev pub HasCollided : List ℕ → List ℕ → List Event → List Event → Type 0
HasCollided log_start db_start log db = HasCollision (replay log_start log).key log_start log ⊎ HasCollision (replay log_start log).key db_start db
