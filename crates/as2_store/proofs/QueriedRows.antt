-- What a query over one table answers, in the order of the numbers: the rows of the entries that pass a test.
use Rattle.std.proofs.Common.{◌≡◌, ℕ, List, [], ◌∷◌, map, slice_get, Some, None, Bool, true, false, ◌&&◌, cond, refl, ap, subst, negsuc}
use Rattle.std.specs.List.{AllByRecursion, filter, find}
use Rattle.sqlite.specs.declared.types.Value.TheVariants.{Int}
use Rattle.sqlite.specs.Order.{Row}
use Rattle.sqlite.specs.Term.{Term, lit}
use Rattle.sqlite.specs.Tree.{IsTable}
use Rattle.sqlite.specs.Command.TheVariants.{Select}
use Rattle.sqlite.specs.Listing.{understood, reads_listing}
use Rattle.sqlite.specs.State.{State as Connected, Shown}
use Rattle.sqlite.proofs.Callers.{IsPlain, command_of, reads_as}
use Rattle.sql_tables.specs.Changes.{over_table, passes, shown_of}
use Rattle.sql_tables.proofs.Queries.{by_number, shows_entries}
use Rattle.as2_store.specs.Tables.{Way, store_schema}

module _ (way : Way) (sql : List ℕ) (plain : IsPlain (understood (store_schema way) sql)) (unlisted : reads_listing (store_schema way) sql ≡ false)
    (tree : ℕ) (terms columns : List Term) (names : List (List ℕ))
    (is : command_of (understood (store_schema way) sql) ≡ Select
    (record { lets = []; body = over_table tree terms columns by_number (lit (Int (negsuc 0))) }) names) (params : Row)
    {X : Type 0} (row shown : X → Row) (shows : (x : X) → shown_of columns params (row x) ≡ shown x) (p : X → Bool) (same : (x : X)
    → passes terms params (row x) ≡ p x) where
  pub reads_rows : (old new : Connected) (rows : List Row) → Shown sql params old new rows → old.now.schema ≡ (store_schema way) → (xs : List X)
      → old.now.trees tree ≡ map row xs → IsTable (map row xs) → rows ≡ map shown (filter p xs)
  reads_rows old new rows h has xs are up =
      let read = reads_as sql params old new (store_schema way) has
      (Select (record { lets = []; body = over_table tree terms columns by_number (lit (Int (negsuc 0))) }) names) is plain unlisted rows h in
      shows_entries tree terms columns (lit (Int (negsuc 0))) old.now.trees params rows row p shown same shows xs are up read.answer

pub and_true : (b : Bool) → (b && true) ≡ b
and_true true = refl
and_true false = refl

-- ---- the first row

module _ {X : Type 0} (shown : X → Row) (p : X → Bool) where
  pub none_first : (xs : List X) (rows : List Row) → rows ≡ map shown (filter p xs) → slice_get rows 0 ≡ None → find p xs ≡ None
  none_first [] rows all none = refl
  none_first (x ∷ xs) rows all none = go (p x) all (λ later. none_first xs rows later none)
    where
      go : (t : Bool) → rows ≡ map shown (cond t (x ∷ filter p xs) (filter p xs)) → (rows ≡ map shown (filter p xs) → find p xs ≡ None)
          → cond t (Some x) (find p xs) ≡ None
      go true all later = absurd (let f = ap (λ l. slice_get l 0) all in cc)
      go false all later = later all

  pub some_first : (xs : List X) (rows : List Row) (row : Row) → rows ≡ map shown (filter p xs) → slice_get rows 0 ≡ Some row → (x : X) × (find p xs ≡ Some x)
      × (row ≡ shown x)
  some_first [] rows row all got = absurd (let f = ap (λ l. slice_get l 0) all in cc)
  some_first (x ∷ xs) rows row all got = go (p x) all (λ later. some_first xs rows row later got)
    where
      go : (t : Bool) → rows ≡ map shown (cond t (x ∷ filter p xs) (filter p xs))
          → (rows ≡ map shown (filter p xs) → (y : X) × (find p xs ≡ Some y) × (row ≡ shown y))
          → (y : X) × (cond t (Some x) (find p xs) ≡ Some y) × (row ≡ shown y)
      go true all later = (x, refl, (let f = ap (λ l. slice_get l 0) all in cc))
      go false all later = later all

-- what holds of all numbers holds of that of the entry found
pub found_all : {X : Type 0} (number : X → ℕ) (P : ℕ → Type 0) (p : X → Bool) (xs : List X) (e : X) → AllByRecursion P (map number xs) → find p xs ≡ Some e
    → P (number e)
found_all number P p [] e all found = absurd cc
found_all number P p (x ∷ xs) e all found = go (p x) found (found_all number P p xs e all.1)
  where
    go : (t : Bool) → cond t (Some x) (find p xs) ≡ Some e → (find p xs ≡ Some e → P (number e)) → P (number e)
    go true is later = let same : x ≡ e = cc in subst (λ y. P (number y)) same all.0
    go false is later = later is
