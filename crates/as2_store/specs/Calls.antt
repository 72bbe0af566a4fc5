-- What each call says, beside what it is for.
use Rattle.std.specs.Prelude.{◌≡◌, ◌⊎◌, ◌≤◌, ℕ, List, [], length, take, true, false, Option, Some, None, Result, IfOk, OnOk, OnErr, IsTrue}
use Rattle.sqlite_trees.specs.Tree.{Trees}
use Rattle.sqlite.specs.State.{State as Connected, HasCleanDisk, KeepsCommit, Survives}
use Rattle.as2_exchange.specs.State.{State, LaterVersion, empty}
use Rattle.as2_exchange.specs.declared.fault.StoreFault.{StoreFault}
use Rattle.as2_exchange.specs.declared.fault.StoreFault.TheVariants.{NotAStore}
use Rattle.as2_store.specs.Tables.{Way, VersionThree, store_schema}
use Rattle.as2_store.specs.Stands.{Stands, Rests, IsBlank, MetaSays, adoption_fault}
use Rattle.as2_records.specs.Standing.{may_come}

-- where no transaction is open, none is marked, and all is committed
pub record IsSettled (c : Connected) : Type 0 where
  pub unmarked : c.in_transaction ≡ false → c.marks ≡ []
  pub committed : c.in_transaction ≡ false → IsTrue c.is_open → c.now ≡ c.committed

-- A statement inside a transaction that holds so many of the oldest savepoints. It begins none, commits nothing and keeps these savepoints,
-- and a crash behind it leaves only what one before it might have left. A failure may end the transaction.
pub record IsInside (held : ℕ) (old new : Connected) : Type 0 where
  pub clean : HasCleanDisk new → HasCleanDisk old
  pub kept : HasCleanDisk new → KeepsCommit old new
  pub begun : HasCleanDisk new → IsTrue new.in_transaction → IsTrue old.in_transaction
  pub marks : HasCleanDisk new → IsTrue new.in_transaction → held ≤ length old.marks → take held new.marks ≡ take held old.marks
  pub settled : HasCleanDisk new → IsSettled old → IsSettled new
  pub survives : Survives old new (λ _. ⊥)

-- ---- what a crash leaves

-- what an open finds is of the version that is read, and stands for this state
pub record Keeps (db : Trees) (s : State) : Type 0 where
  pub way : Way
  pub stands : Stands (VersionThree way) (record { schema = store_schema way; trees = db }) s

-- a store without entries, as it is made
abbrev pub empty_store : ℕ → State
empty_store first = empty (LaterVersion 0) first

-- whatever stops the computer now, what an open finds stands for this state
pub record TablesLast (c : Connected) (s : State) : Type 0 where
  pub each : (db : Trees) → c.may_leave db → Keeps db s

-- these trees stand for the next state
pub record KeepsNextTables (db : Trees) (next : Option State) : Type 0 where
  pub state : State
  pub is : next ≡ Some state
  pub keeps : Keeps db state

-- what a call commits, over an open connection: the state that is next to each that the tables stood for
pub record CommitsTables (next : State → Option State) (old : Connected) (db : Trees) : Type 0 where
  pub was_open : IsTrue old.is_open
  pub stands : (s : State) → Rests old s → KeepsNextTables db (next s)

-- ---- calls

-- the tables stand for the next state, and so does what a crash leaves
pub record ReachesTables (c : Connected) (next : Option State) : Type 0 where
  pub state : State
  pub is : next ≡ Some state
  pub rests : Rests c state
  pub lasts : TablesLast c state

-- a read: nothing changes, and the answer fits each state that the tables stand for
pub record ReadsTables {A E : Type 0} (fits : State → A → Type 0) (old new : Connected) (r : Result A E) : Type 0 where
  pub clean : HasCleanDisk new → HasCleanDisk old
  pub was_open : HasCleanDisk new → OnOk r (IsTrue old.is_open)
  pub is_open : HasCleanDisk new → OnOk r (IsTrue new.is_open)
  pub answer : HasCleanDisk new → IfOk r (λ a. (s : State) → Rests old s → fits s a)
  pub same : HasCleanDisk new → (s : State) → Rests old s → Rests new s
  pub crash : Survives old new (CommitsTables Some old)

-- a write: it commits the next state, or fails and leaves the state
pub record WritesTables {A E : Type 0} (next : State → Option State) (old new : Connected) (r : Result A E) : Type 0 where
  pub clean : HasCleanDisk new → HasCleanDisk old
  pub was_open : HasCleanDisk new → OnOk r (IsTrue old.is_open)
  pub is_open : HasCleanDisk new → OnOk r (IsTrue new.is_open)
  pub done : HasCleanDisk new → OnOk r ((s : State) → Rests old s → ReachesTables new (next s))
  pub failed : HasCleanDisk new → OnErr r ((s : State) → Rests old s → Rests new s)
  pub crash : Survives old new (CommitsTables next old)

-- ---- a store is made, or found

-- what the making of a store commits, over an open connection: where no table was, the state without entries
pub record CommitsFirst (first : ℕ) (old : Connected) (db : Trees) : Type 0 where
  pub was_open : IsTrue old.is_open
  pub stands : IsBlank old → Keeps db (empty_store first)

-- a store without entries was made, where no table was
pub record Creates (first : ℕ) (old new : Connected) : Type 0 where
  pub clean : HasCleanDisk new → HasCleanDisk old
  pub is_open : HasCleanDisk new → IsTrue new.is_open
  pub done : HasCleanDisk new → IsBlank old → ReachesTables new (Some (empty_store first))
  pub crash : Survives old new (CommitsFirst first old)

-- the tables are those of a store of this version, and of no other kind; there are some
pub record Adopts (old new : Connected) : Type 0 where
  pub clean : HasCleanDisk new → HasCleanDisk old
  pub is_open : HasCleanDisk new → IsTrue new.is_open
  pub done : HasCleanDisk new → (s : State) → Rests old s → ReachesTables new (Some s)
  pub adoption_fault : HasCleanDisk new → (kind : List ℕ) (version : ℕ) → MetaSays old kind version → adoption_fault kind version ≡ None
  pub no_blank : HasCleanDisk new → ¬ IsBlank old
  pub crash : Survives old new (CommitsTables Some old)

-- Why tables aren't adopted. It is a fault that may come from any call, or else what the row of `meta` says, where that can
-- be read. A database without tables is no store.
pub record IsReason (old : Connected) (f : StoreFault) : Type 0 where
  pub of_store : (s : State) → Rests old s → may_come f ≡ true
  pub of_row : (kind : List ℕ) (version : ℕ) → MetaSays old kind version → (may_come f ≡ true) ⊎ (adoption_fault kind version ≡ Some f)
  pub of_blank : IsBlank old → (may_come f ≡ true) ⊎ (f ≡ NotAStore)

-- a connection that is refused is given back with its tables as they were, whatever they are, where nothing was uncommitted
pub record IsGivenBack (commits : Trees → Type 0) (old new : Connected) : Type 0 where
  pub clean : HasCleanDisk new → HasCleanDisk old
  pub autocommit : new.in_transaction ≡ false
  pub was_open : HasCleanDisk new → IsTrue new.is_open → IsTrue old.is_open
  pub tables : HasCleanDisk new → IsTrue new.is_open → old.committed ≡ old.now → (new.now ≡ old.now) × (new.committed ≡ old.now)
  pub crash : Survives old new commits
