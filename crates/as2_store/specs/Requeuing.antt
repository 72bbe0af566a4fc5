-- A receipt is to be sent anew, and what the statements that say so leave.
use Rattle.std.specs.Prelude.{◌≡◌, ◌≢◌, ◌==◌, ℕ, List, map, filter, not}
use Rattle.std.specs.List.{AllByRecursion}
use Rattle.sqlite.specs.Effect.{Database, IsDatabase}
use Rattle.sqlite.specs.Order.{Row}
use Rattle.sqlite.specs.State.{State as Connected}
use Rattle.sqlite.specs.Tree.{IsTable}
use Rattle.as2_rows.specs.Waiting.{WaitingRow}
use Rattle.as2_store.specs.Tables.{Way, store_schema, waiting_tree}
use Rattle.as2_store.specs.Stands.{place, waiting_row}

-- what waits, in order of the places
pub record HoldsWaiting (way : Way) (d : Database) (ws : List WaitingRow) : Type 0 where
  pub schema : d.schema ≡ store_schema way
  pub rows : d.trees waiting_tree ≡ map waiting_row ws
  pub in_order : IsTable (map waiting_row ws)

-- what stands at another place
abbrev pub not_at : ℕ → List WaitingRow → List WaitingRow
not_at p ws = filter (λ w. not (place w == p)) ws

-- the rows of what waits are these, and the other tables are as they were
pub record RenewsWaiting (way : Way) (old new : Connected) (rows : List Row) : Type 0 where
  pub sound : IsDatabase new.now
  pub schema_is : new.now.schema ≡ store_schema way
  pub rows_are : new.now.trees waiting_tree ≡ rows
  pub others : AllByRecursion (λ t. t.tree ≢ waiting_tree → new.now.trees t.tree ≡ old.now.trees t.tree) (store_schema way).tables
