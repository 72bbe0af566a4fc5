-- The tables of a store become those of a later version: what is told of it, and what a stop meanwhile leaves.
use Rattle.std.specs.Prelude.{◌≡◌, ◌⊎◌, Bool, false, [], ◌∷◌, if◌then◌else◌, IsTrue}
use Rattle.sqlite.specs.State.{State as Connected, HasCleanDisk, Survives}
use Rattle.sqlite_wal.specs.Recovery.{Image}
use Rattle.as2_exchange.specs.Agreement.{Agreements}
use Rattle.as2_exchange.specs.Run.{AMigration, Trace}
use Rattle.as2_exchange.specs.State.{State}
use Rattle.as2_store.specs.Calls.{ReachesTables}
use Rattle.as2_store.specs.Files.{HoldsState}
use Rattle.as2_store.specs.Migrating.{CommitsMigrated, RestsAs, migrated_from}
use Rattle.as2_store.specs.Tables.{Layout, VersionOne, VersionTwo, VersionThree}
use Rattle.as2_storage.specs.Files.{HoldsAs}
use Rattle.as2_restart.specs.Restarts.{ComesTo}

-- What the migration of tables of this version tells, which stood for that state. Of the first version it is a mark. Of later ones it
-- is nothing, since the state is the same.
abbrev pub migration_trace : Layout → State → Trace
migration_trace VersionOne s = AMigration s.next_in ∷ []
migration_trace (VersionTwo way) s = []
migration_trace (VersionThree way) s = []

-- what was told, where it was answered or not
abbrev pub told_migration : Bool → Layout → State → Trace
told_migration is_answered layout s = if is_answered then migration_trace layout s else []

-- a migration was answered, and done, or it wasn't, and may be done once what it commits is found
pub record TriesMigration (is_answered : Bool) (old new : Connected) : Type 0 where
  pub clean : HasCleanDisk new → HasCleanDisk old
  pub done : IsTrue is_answered → HasCleanDisk new → (layout : Layout) (s : State) → RestsAs layout old s → ReachesTables new (migrated_from layout s)
  pub crash : Survives old new (CommitsMigrated old)

-- What was told leads to the state that the files hold, and they are whole: of the version that is read or, where no answer came, as
-- they were.
pub record AreBeforeOrMigrated (A : Agreements) (is_answered : Bool) (layout : Layout) (s : State) (image : Image) : Type 0 where
  pub state : State
  pub comes : ComesTo A (told_migration is_answered layout s) s state
  pub held : HoldsState image state ⊎ ((is_answered ≡ false) × HoldsAs layout image state)
