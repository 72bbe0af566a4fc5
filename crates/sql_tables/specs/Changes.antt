-- What a statement over one table leaves.
use Rattle.std.specs.Prelude.{◌≡◌, ◌≢◌, ◌⊎◌, ℕ, ℤ, Bool, false, if◌then◌else◌, List, [], ◌∷◌, map, filter, pos, None, IsPermutation}
use Rattle.std.specs.List.{AllByRecursion, list_all}
use Rattle.sqlite.specs.declared.types.Value.TheVariants.{Int}
use Rattle.sqlite.specs.Order.{Row}
use Rattle.sqlite.specs.Schema.{Schema}
use Rattle.sqlite.specs.Tree.{IsTable}
use Rattle.sqlite.specs.Term.{Term, lit, eval_all, holds}
use Rattle.sqlite.specs.Query.{Query, inner, end}
use Rattle.sqlite.specs.Change.{next_tree, KeepsRows}
use Rattle.sqlite.specs.Effect.{IsDatabase}
use Rattle.sqlite.specs.State.{State, Shows, store_error}
use Rattle.sqlite_trees.specs.declared.error.StoreError.{StoreError}
use Rattle.sqlite.specs.declared.error.Error.{Error}
use Rattle.sqlite.specs.declared.error.Error.TheVariants.{SqliteFailure}
use Rattle.sqlite.specs.declared.error.ErrorCode.TheVariants.{OperationInterrupted}
use Rattle.sqlite_schema.specs.Rules.{Fits}
use Rattle.sqlite_value.specs.declared.keys.Key.{Key}

-- The connection was open and is. The table has these rows, and the other tables are as they were. Outside a transaction that is committed.
pub record ChangesTable (old new : State) (schema : Schema) (tree : ℕ) (rows : List Row) : Type 0 where
  pub schema_is : new.now.schema ≡ schema
  pub rows_are : new.now.trees tree ≡ rows
  pub others : AllByRecursion (λ t. t.tree ≢ tree → new.now.trees t.tree ≡ old.now.trees t.tree) schema.tables
  pub fits : Fits schema new.now.trees
  pub sound : IsDatabase new.now
  pub shown : Shows old new new.now (if old.in_transaction then old.committed else new.now) old.in_transaction
  pub marks : new.marks ≡ old.marks

-- the row of this number and these columns
abbrev pub numbered_row : ℤ × Row → Row
numbered_row r = Int r.0 ∷ r.1

-- apart from their numbers, which rise, the rows of a table are these, in some order
pub record HasRows (rows shown : List Row) : Type 0 where
  pub numbered : List (ℤ × Row)
  pub rows_are : rows ≡ map numbered_row numbered
  pub rise : IsTable rows
  pub columns : IsPermutation (map (λ r. r.1) numbered) shown

-- a query over one table, with no GROUP BY, DISTINCT or OFFSET
abbrev pub over_table : ℕ → List Term → List Term → List (Term × Key) → Term → Query
over_table tree filter project order limit = record {
  from = inner tree end;
  filter = filter;
  group = None;
  project = project;
  distinct = false;
  collations = [];
  order = order;
  limit = limit;
  offset = lit (Int (pos 0));
}

-- the rows that pass each term of WHERE
abbrev pub passes : List Term → Row → Row → Bool
passes terms params r = list_all (holds (params ∷ r ∷ [])) terms

abbrev pub chosen_rows : List Term → Row → List Row → List Row
chosen_rows terms params rows = filter (passes terms params) rows

-- what is shown of a row
abbrev pub shown_of : List Term → Row → Row → Row
shown_of project params r = eval_all project (params ∷ r ∷ [])

-- a table was made, with no row, and the others are as they were
pub record AddsTable (old new : State) (schema next : Schema) : Type 0 where
  pub schema_is : new.now.schema ≡ next
  pub empty : new.now.trees (next_tree schema) ≡ []
  pub others : KeepsRows schema.tables old.now.trees new.now.trees
  pub shown : Shows old new new.now (if old.in_transaction then old.committed else new.now) old.in_transaction
  pub marks : new.marks ≡ old.marks

-- an index was made, and the tables are as they were
pub record AddsIndex (old new : State) (schema next : Schema) : Type 0 where
  pub schema_is : new.now.schema ≡ next
  pub others : KeepsRows schema.tables old.now.trees new.now.trees
  pub shown : Shows old new new.now (if old.in_transaction then old.committed else new.now) old.in_transaction
  pub marks : new.marks ≡ old.marks

-- memory, the disk, or a limit on steps
abbrev pub IsOutside : Error → Type 0
IsOutside e = ((cause : StoreError) × (e ≡ store_error cause)) ⊎ (e ≡ SqliteFailure OperationInterrupted)
