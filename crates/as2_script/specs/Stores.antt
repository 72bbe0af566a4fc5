-- What is kept of the stores of a script.
use Rattle.std.specs.Prelude.{ℕ, List, Bool, true, false, Option, Some, None, bytes_eq, codes, if◌then◌else◌}
use Rattle.sqlite.specs.Held.{Held, state}
use Rattle.sqlite_trees.specs.declared.memory.MemStore.{MemStore}
use Rattle.sqlite.specs.Steps.{over_memory}
use Rattle.as2_exchange.specs.State.{State}
use Rattle.as2_store.specs.Stands.{Rests}

-- the tables of the store that is kept stand for that state
abbrev pub MemoryKeeps : Option (Held MemStore) → State → Type 0
MemoryKeeps None s = ⊥
MemoryKeeps (Some c) s = Rests (state over_memory c) s

-- how many bytes the files take by that word
abbrev pub size_by : List ℕ → ℕ
size_by word = if bytes_eq word (codes "large") then 1047476 else 0
