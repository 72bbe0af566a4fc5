-- What the two files of a store hold once it has been closed.
use Rattle.std.specs.Prelude.{◌≡◌, []}
use Rattle.sqlite_disk.specs.declared.Disk.{Ghosts}
use Rattle.sqlite_disk.specs.declared.Files.{Files}
use Rattle.sqlite_wal.specs.Files.{outcomes}
use Rattle.sqlite_wal.specs.Recovery.{Image}
use Rattle.sqlite_store.specs.FileStore.{is_shielded, files as store_files}
use Rattle.sqlite_store.specs.declared.store.FileStore.{FileStore}
use Rattle.sqlite_trees.specs.Tree.{Trees}
use Rattle.sqlite.specs.Closing.{IsCopied}
use Rattle.sqlite.specs.Files.{Finds, HoldsDatabase, IsClosed, image_of}
use Rattle.sqlite.specs.Held.{Held}
use Rattle.as2_exchange.specs.State.{State}
use Rattle.as2_store.specs.Files.{HoldsState}
use Rattle.as2_store.specs.Stands.{Stands}
use Rattle.as2_store.specs.Tables.{Layout, schema_of}

-- the files hold this state, and the database file does without its log
pub record HoldsEitherWay (image : Image) (s : State) : Type 0 where
  pub both : HoldsState image s
  pub alone : HoldsState (record image { log = [] }) s

-- so they do as they read now, and after a crash
pub record AreClosed {D : Type 0} (g : Ghosts D) (files : Files D) (s : State) : Type 0 where
  pub seen : HoldsEitherWay (image_of g files) s
  pub left : (image : Image) → outcomes g files.log files.db image → HoldsEitherWay image s

-- they are those of a store under the kit's shield: they returned what was written, or a digest has collided
abbrev pub AreShielded : {D : Type 0} → Ghosts D → Files D → Type 0
AreShielded {D} g files = (last : FileStore D g) × (store_files last ≡ (files.log, files.db)) × is_shielded last

-- the files are those of a store of which a crash leaves only what it could have left of the connection, a database each time
abbrev pub AreLeftBy : {D : Type 0} → (g : Ghosts D) → Held (FileStore D g) → Files D → Type 0
AreLeftBy {D} g c files = (last : FileStore D g) × (store_files last ≡ (files.log, files.db)) × IsClosed c last

-- the log and the file hold a database whose tables are of this version and stand for this state
pub record HoldsAs (layout : Layout) (image : Image) (s : State) : Type 0 where
  pub db : Trees
  pub held : ∥ HoldsDatabase image db ∥₁
  pub stands : Stands layout (record { schema = schema_of layout; trees = db }) s

-- What was committed over the one connection was copied into its database file, down to the disk, and the other has opened on these very
-- files.
pub record IsSettledFrom {D : Type 0} (g : Ghosts D) (before after : Held (FileStore D g)) : Type 0 where
  pub files : Files D
  pub copied : IsCopied before files
  pub finds : Finds files after

-- the same, whichever connection it was
abbrev pub IsSettled : {D : Type 0} → (g : Ghosts D) → Held (FileStore D g) → Type 0
IsSettled {D} g after = (before : Held (FileStore D g)) × IsSettledFrom g before after
