-- The files of one store: what they hold, before they are opened and once they are closed.
use Rattle.std.specs.Prelude.{ℕ, Bool, true, false, Option, Some, None, IsTrue, ⊤}
use Rattle.sqlite.specs.Closing.{HoldsAlone}
use Rattle.sqlite.specs.Files.{file_state, image_of}
use Rattle.sqlite.specs.Held.{Held}
use Rattle.sqlite.specs.State.{State as Connected, HasCleanDisk}
use Rattle.sqlite_disk.specs.declared.Disk.{Ghosts}
use Rattle.sqlite_disk.specs.declared.Files.{Files}
use Rattle.sqlite_store.specs.declared.store.FileStore.{FileStore}
use Rattle.sqlite_trees.specs.Tree.{Trees}
use Rattle.sqlite_wal.specs.Files.{outcomes}
use Rattle.sqlite_wal.specs.Reads.{AreClean}
use Rattle.sqlite_wal.specs.Recovery.{Image}
use Rattle.as2_exchange.specs.State.{State}
use Rattle.as2_kept.specs.Instance.{tables_standing, tables}
use Rattle.as2_records.specs.Standing.{Medium, Standing}
use Rattle.as2_kept.specs.Round.{standing_in_round}
use Rattle.as2_kept.specs.declared.round.HeldRound.{HeldRound}
use Rattle.as2_storage.specs.Files.{AreClosed, AreLeftBy}
use Rattle.as2_store.specs.Files.{HoldsState}
use Rattle.as2_store.specs.Stands.{Rests}
use Rattle.as2_files.specs.declared.keeping.End.{End}
use Rattle.as2_files.specs.declared.keeping.End.TheVariants.{Closed, Left, Lost}

-- A store was found in files that held that. Where all that is read is what had been written, it is open, and stands for what they
-- held.
abbrev pub IsFound : Image → Connected → Type 0
IsFound image c = HasCleanDisk c → IsTrue c.is_open × ((s : State) → HoldsState image s → Rests c s)

-- a store in files, as records
abbrev pub records_of_store : {D : Type 0} {g : Ghosts D} → Held (FileStore D g) → Standing tables
records_of_store c = tables_standing (file_state c)

-- a round of one
abbrev pub round_of_store : {D : Type 0} {g : Ghosts D} → HeldRound (FileStore D g) → Standing tables
round_of_store r = standing_in_round r.failures (file_state r.store)

-- the files are what was left of a round
abbrev pub IsLostInto : {D : Type 0} → (g : Ghosts D) → HeldRound (FileStore D g) → Files D → Type 0
IsLostInto g r files = AreLeftBy g r.store files

-- of files of a round that was lost; no records were closed
abbrev pub IfLost : {D : Type 0} → (Files D → Type 0) → End D → Type 0
IfLost P (Closed files) = ⊥
IfLost P (Left files) = ⊥
IfLost P (Lost files) = P files

-- Of which records files are that records weren't closed into: of those that couldn't be closed, or of a round that was lost. They stood
-- for that state.
pub record Leaves (D : Type 0) : Type 1 where
  pub Unclosed : Files D → State → Type 0
  pub Lost : Files D → State → Type 0

-- by what shows of them, and by which files are left of which
abbrev pub leaves_by : {D R Q : Type 0} {M N : Medium} → (R → Standing M) → (R → Files D → Type 0) → (Q → Standing N) → (Q → Files D → Type 0) → Leaves D
leaves_by {D} {R} {Q} shows LeftOf round_shows LostOf = record {
  Unclosed = λ files s. (records : R) × (shows records).Rests s × LeftOf records files;
  Lost = λ files s. (round : Q) × (round_shows round).Rests s × LostOf round files;
}

-- those of a store
abbrev pub leaves_of_store : {D : Type 0} → Ghosts D → Leaves D
leaves_of_store g = leaves_by (records_of_store {g = g}) (AreLeftBy g) (round_of_store {g = g}) (IsLostInto g)

module _ {D : Type 0} (g : Ghosts D) (L : Leaves D) where
  -- The files into which records were closed hold that state. Where records couldn't be closed, or a round was lost, they stood for that
  -- state, and the files are what was left of them.
  abbrev pub EndsIn : End D → State → Type 0
  EndsIn (Closed files) s = AreClosed g files s
  EndsIn (Left files) s = L.Unclosed files s
  EndsIn (Lost files) s = L.Lost files s

  -- the tables in the files stand for that state: by what they held as they were opened, until they are closed
  abbrev pub FilesKeep : Image → Option (End D) → State → Type 0
  FilesKeep image None s = HoldsState image s
  FilesKeep image (Some end) s = EndsIn end s

module _ {D : Type 0} (g : Ghosts D) where
  -- until they were closed, all that was read of them is what had been written
  abbrev pub IsCleanEnd : Option (End D) → Type 0
  IsCleanEnd None = ⊤
  IsCleanEnd (Some (Closed files)) = AreClean g files.log files.db
  IsCleanEnd (Some (Left files)) = AreClean g files.log files.db
  IsCleanEnd (Some (Lost files)) = AreClean g files.log files.db

-- of files into which a store was closed
abbrev pub IfClosed : {D : Type 0} → (Files D → Type 0) → End D → Type 0
IfClosed P (Closed files) = P files
IfClosed P (Left files) = ⊤
IfClosed P (Lost files) = ⊤

-- of files of a store that couldn't be closed; they aren't of a round
abbrev pub IfLeft : {D : Type 0} → (Files D → Type 0) → End D → Type 0
IfLeft P (Closed files) = ⊤
IfLeft P (Left files) = P files
IfLeft P (Lost files) = ⊥

-- where all that is read is what had been written, the database file does without its log, as both read now and after a crash
abbrev pub NeedsNoLog : {D : Type 0} → Ghosts D → Files D → Type 0
NeedsNoLog g files = AreClean g files.log files.db → (db : Trees) × HoldsAlone (image_of g files) db × ((image : Image) → outcomes g files.log files.db image → HoldsAlone image db)
