-- What the two files of a database hold, as a store.
use Rattle.sqlite_wal.specs.Recovery.{Image}
use Rattle.sqlite_trees.specs.Tree.{Trees}
use Rattle.sqlite.specs.Files.{HoldsDatabase}
use Rattle.as2_exchange.specs.State.{State}
use Rattle.as2_store.specs.Calls.{Keeps}

-- the log and the file hold a database whose tables stand for this state
abbrev pub HoldsState : Image → State → Type 0
HoldsState image s = (db : Trees) × ∥ HoldsDatabase image db ∥₁ × Keeps db s
