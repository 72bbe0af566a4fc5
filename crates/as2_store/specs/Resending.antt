-- A document is sent anew: what tells then that it was begun before.
use Rattle.std.specs.Prelude.{◌≡◌, ℕ, ◌==◌, ◌&&◌, nat_le, Bool, true, false, List, [], ◌∷◌, map, filter}
use Rattle.std.specs.List.{AllByRecursion}
use Rattle.sqlite.specs.Effect.{Database}
use Rattle.sqlite.specs.Order.{Row}
use Rattle.sqlite.specs.Tree.{IsTable}
use Rattle.as2_exchange.specs.State.{State}
use Rattle.as2_exchange.specs.declared.outbox.OutEntry.{OutEntry}
use Rattle.as2_store.specs.Tables.{Way, VersionThree, store_schema, resent_tree}
use Rattle.as2_store.specs.Stands.{Stands, HasResent, numbers_of, resent_row}

-- it has this number, and was tried since it was last queued
abbrev pub is_tried : ℕ → OutEntry → Bool
is_tried n d = d.number == n && nat_le 1 d.tries

-- the numbers of the documents that a query for such ones shows
abbrev pub tried_numbers : ℕ → State → List ℕ
tried_numbers n s = numbers_of (filter (is_tried n) s.outbox)

-- a query shows a row
abbrev pub has_row : List Row → Bool
has_row [] = false
has_row (row ∷ rows) = true

-- the numbers of the rows, in order
pub record HoldsResent (way : Way) (d : Database) (ns : List ℕ) : Type 0 where
  pub schema : d.schema ≡ store_schema way
  pub rows : d.trees (resent_tree way) ≡ map resent_row ns
  pub in_order : IsTable (map resent_row ns)

-- the document of this number, if there is one, is begun exactly where it has a row
pub record IsMarked (rows : List Row) (outbox : List OutEntry) (n : ℕ) : Type 0 where
  pub resent : HasResent rows outbox
  pub own : AllByRecursion (λ d. (d.number == n) ≡ true → d.begun ≡ resent.was d.number) outbox

-- The tables stand for this state still. The document of this number may be given so many tries, since it is begun by them or by its
-- row.
pub record IsReady (way : Way) (d : Database) (s : State) (n tries : ℕ) : Type 0 where
  pub stands : Stands (VersionThree way) d s
  pub marked : nat_le 1 tries ≡ false → IsMarked (d.trees (resent_tree way)) s.outbox n
