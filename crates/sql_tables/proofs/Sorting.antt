-- Tables whose rows stand in any order, and what a query in the order of a column shows of them.
use Rattle.std.proofs.Common.{◌≡◌, ℕ, zero, suc, ℤ, pos, negsuc, ◌+ℤ◌, ◌<ℤ◌, List, [], ◌∷◌, ◌++◌, map, drop, filter, fold, Bool, refl, sym, ap, subst, ◌∙◌, arith, add-one, Ordering, Less, Equal, is_lt, IsPermutation, IsSorted}
use Rattle.std.specs.Cmp.{IsTotalOrder}
use Rattle.std.specs.Ordering.{match_ordering, ordering_then, ordering_reverse}
use Rattle.std.proofs.lemmas.List.{map-append}
use Rattle.std.proofs.lemmas.List.Sorted.{IsPermutation-refl, IsPermutation-sym, IsPermutation-trans, IsPermutation-map, IsPermutation-append_left}
use Rattle.std.proofs.lemmas.Int.{ints}
use Rattle.std.proofs.lemmas.Bool.Decides.{nat_tests}
use Rattle.sqlite.specs.declared.types.Value.TheVariants.{Int}
use Rattle.sqlite.specs.Order.{Row, column, value_cmp}
use Rattle.sqlite.specs.Tree.{Trees, IsTable, IsAscending, rowid, put_row}
use Rattle.sqlite.specs.Term.{Term, lit}
use Rattle.sqlite.specs.Query.{IsSureAnswer, Output, output, output_cmp}
use Rattle.sqlite.specs.Program.{overlay}
use Rattle.sqlite.specs.Edit.{next_rowid, id_in}
use Rattle.sqlite_value.proofs.OrderLemmas.{value_cmp-Int}
use Rattle.sqlite_trees.proofs.ListLemmas.{map-map, ascending-filter, ascending-map, ascending_from_map, ascending_weaker, filter-map, filter_same, all_of, IsPermutation-filter, pull_back}
use Rattle.sqlite_trees.proofs.TreeLemmas.{IsTable-put_row}
use Rattle.sqlite_sql.proofs.QueryLemmas.{output_cmp_total}
use Rattle.sqlite_keyed.proofs.SortLemmas.{sorted_unique}
use Rattle.sql_tables.specs.Changes.{HasRows, numbered_row, over_table, passes, chosen_rows, shown_of}
use Rattle.sql_tables.proofs.Queries.{answered, by_column, map_same}

-- ---- what a table has

pub no_rows : HasRows [] []
no_rows = record { numbered = []; rows_are = refl; rise = tt; columns = IsPermutation-refl [] }

-- of a table that is as it was
pub unchanged : {rows new shown : List Row} → new ≡ rows → HasRows rows shown → HasRows new shown
unchanged {shown = shown} same h = subst (λ l. HasRows l shown) (sym same) h

below : (m n : ℤ) → value_cmp (Int m) (Int n) ≡ Less → m <ℤ n
below m n less = let it = sym (value_cmp-Int m n) ∙ less in grind (arith, ints, nat_tests)

above : (m n : ℤ) → m <ℤ n → value_cmp (Int m) (Int n) ≡ Less
above m n less = value_cmp-Int m n ∙ grind (arith, ints, nat_tests)

-- the number that is chosen next, where the one before gives n
abbrev next_from : ℤ → List (ℤ × Row) → ℤ
next_from n rs = fold (λ _ r. id_in (rowid r) +ℤ pos 1) n (map numbered_row rs)

next_above : (r : ℤ × Row) (rs : List (ℤ × Row)) → IsTable (map numbered_row (r ∷ rs)) → r.0 <ℤ next_from (r.0 +ℤ pos 1) rs
next_above r [] up = omega (arith, ints)
next_above r (s ∷ rs) up = omega (arith, ints, below r.0 s.0 up.0.0, next_above s rs up.1)

puts_last : (n : ℤ) (c : Row) (rs : List (ℤ × Row)) → IsTable (map numbered_row rs)
    → put_row (Int (next_from n rs) ∷ c) (map numbered_row rs) ≡ map numbered_row (rs ++ (next_from n rs, c) ∷ [])
puts_last n c [] up = refl
puts_last n c (r ∷ rs) up =
    let next = next_from (r.0 +ℤ pos 1) rs in
    let new = Int next ∷ c in
    let rows = map numbered_row rs in
    ap (λ o. match_ordering o (numbered_row r ∷ put_row new rows) (new ∷ rows) (new ∷ numbered_row r ∷ rows)) (above r.0 next (next_above r rs up))
    ∙ ap (λ l. numbered_row r ∷ l) (puts_last (r.0 +ℤ pos 1) c rs up.1)

-- one more, under the number that INSERT chooses
pub one_more_row : (rows shown : List Row) (c : Row) → HasRows rows shown → HasRows (put_row (Int (next_rowid rows) ∷ c) rows) (shown ++ c ∷ [])
one_more_row rows shown c h =
    let rs = h.numbered in
    let next = next_from (pos 1) rs in
    record {
      numbered = rs ++ (next, c) ∷ [];
      rows_are = ap (λ l. put_row (Int (next_rowid l) ∷ c) l) h.rows_are ∙ puts_last (pos 1) c rs (subst IsTable h.rows_are h.rise);
      rise = IsTable-put_row (Int (next_rowid rows) ∷ c) rows h.rise;
      columns = subst (λ l. IsPermutation l (shown ++ c ∷ [])) (sym (map-append (λ (r : ℤ × Row). r.1) rs ((next, c) ∷ [])))
          (IsPermutation-append_left (c ∷ []) _ shown h.columns);
    }

-- the rows behind their numbers
unnumbered : {rows shown : List Row} (h : HasRows rows shown) → map (λ (r : ℤ × Row). r.1) h.numbered ≡ map (drop 1) rows
unnumbered h = sym (ap (map (drop 1)) h.rows_are ∙ map-map (drop 1) numbered_row h.numbered)

-- a table has the same rows, in some order, whoever says what it has
pub same_rows : (rows one other : List Row) → HasRows rows one → HasRows rows other → IsPermutation one other
same_rows rows one other h k =
    IsPermutation-trans one _ other (IsPermutation-sym _ one h.columns) (subst (λ l. IsPermutation l other) (unnumbered k ∙ sym (unnumbered h)) k.columns)

-- ---- one order

module _ {X : Type 0} (cmp : X → X → Ordering) (total : IsTotalOrder cmp) where
  sorted : (xs : List X) → IsAscending (λ a b. cmp a b ≡ Less) xs → IsSorted cmp xs
  sorted [] up k d low high = absurd (omega arith)
  sorted (x ∷ []) up k d low high = absurd (omega arith)
  sorted (x ∷ y ∷ xs) up zero d low high = ap is_lt (total.antisymm y x ∙ ap ordering_reverse up.0.0)
  sorted (x ∷ y ∷ xs) up (suc k) d low high = rw add-one (rw add-one at (sorted (y ∷ xs) up.1 k d (omega arith) (omega arith)))

  -- of the orders of a list one rises
  pub one_order : (xs ys : List X) → IsAscending (λ a b. cmp a b ≡ Less) xs → IsAscending (λ a b. cmp a b ≡ Less) ys → IsPermutation xs ys → xs ≡ ys
  one_order xs ys up rise same = sym (sorted_unique cmp total xs ys up same (sorted ys rise))

-- ---- what a query shows

-- in the order of a column: the rows that are chosen, where their values there differ
pub shows_sorted : (tree : ℕ) (terms project : List Term) (at : ℕ) (db : Trees) (params : Row) (rows ordered : List Row)
    → IsPermutation (chosen_rows terms params (db tree)) ordered
    → IsAscending (λ a b. value_cmp (column a at) (column b at) ≡ Less) ordered
    → IsSureAnswer (over_table tree terms project (by_column at) (lit (Int (negsuc 0)))) (overlay db []) params rows
    → rows ≡ map (shown_of project params) ordered
shows_sorted tree terms project at db params rows ordered same up sure =
    let q = over_table tree terms project (by_column at) (lit (Int (negsuc 0))) in
    let a = answered tree terms project (by_column at) (lit (Int (negsuc 0))) db params rows sure in
    let shows = λ (r : Row). output q (params ∷ r ∷ []) in
    let strict : IsAscending (λ x y. output_cmp q x y ≡ Less) (map shows ordered) =
    ascending-map _ shows ordered
    (ascending_weaker _ (λ x y. output_cmp q (shows x) (shows y) ≡ Less) (λ x y less. ap (λ o. ordering_then o Equal) less) ordered up) in
    let from = IsPermutation-trans _ _ _ (IsPermutation-sym _ _ (IsPermutation-map shows _ _ same)) a.1 in
    let is = sorted_unique (output_cmp q) (output_cmp_total q) (map shows ordered) a.0 strict from a.2 in
    a.3 ∙ ap (map (λ (o : Output). o.1)) is ∙ map-map (λ (o : Output). o.1) shows ordered

-- entries, each as a row under some number
module _ {X : Type 0} (row : X → Row) where
  abbrev under : ℤ × X → Row
  under y = Int y.0 ∷ row y.1

  entries_under : (rs : List (ℤ × Row)) (xs : List X) → map row xs ≡ map (λ r. r.1) rs → (ys : List (ℤ × X)) × (map numbered_row rs ≡ map under ys)
      × (xs ≡ map (λ y. y.1) ys)
  entries_under [] [] e = ([], refl, refl)
  entries_under [] (x ∷ xs) e = absurd cc
  entries_under (r ∷ rs) [] e = absurd cc
  entries_under (r ∷ rs) (x ∷ xs) e =
      let head : r.1 ≡ row x = cc in
      let later = entries_under rs xs cc in
      ((r.0, x) ∷ later.0, (λ i. (Int r.0 ∷ head i) ∷ later.1 i), ap (λ l. x ∷ l) later.2)

  numbered_entries : (rows : List Row) (xs : List X) → HasRows rows (map row xs) → (ys : List (ℤ × X)) × IsPermutation rows (map under ys)
      × (xs ≡ map (λ y. y.1) ys)
  numbered_entries rows xs h =
      let back = pull_back (λ (r : ℤ × Row). r.1) _ _ h.columns h.numbered refl in
      let it = entries_under back.0 xs back.2 in (
        it.0,
        subst (λ l. IsPermutation l (map under it.0)) (sym h.rows_are)
            (subst (IsPermutation (map numbered_row h.numbered)) it.1 (IsPermutation-map numbered_row _ _ back.1)),
        it.2,
      )

-- the same of a table that has the rows of entries, where the statement doesn't read their numbers
pub shows_sorted_entries : (tree : ℕ) (terms project : List Term) (at : ℕ) (db : Trees) (params : Row) (rows : List Row) {X : Type 0} (row : X → Row) (p : X
    → Bool) (shown : X → Row)
    → ((n : ℤ) (x : X) → passes terms params (Int n ∷ row x) ≡ p x) → ((n : ℤ) (x : X) → shown_of project params (Int n ∷ row x) ≡ shown x)
    → (xs : List X) → HasRows (db tree) (map row xs) → IsAscending (λ a b. value_cmp (column (row a) at) (column (row b) at) ≡ Less) (filter p xs)
    → IsSureAnswer (over_table tree terms project (by_column (suc at)) (lit (Int (negsuc 0)))) (overlay db []) params rows → rows ≡ map shown (filter p xs)
shows_sorted_entries tree terms project at db params rows {X} row p shown same shows xs has up sure =
    let it = numbered_entries row (db tree) xs has in
    let hits = λ (y : ℤ × X). p y.1 in
    let kept = filter hits it.0 in
    let picked : filter p xs ≡ map (λ (y : ℤ × X). y.1) kept = ap (filter p) it.2 ∙ filter-map p (λ (y : ℤ × X). y.1) it.0 in
    let which : chosen_rows terms params (map (under row) it.0) ≡ map (under row) kept =
    filter-map (passes terms params) (under row) it.0
    ∙ ap (map (under row)) (filter_same (λ y. passes terms params (under row y)) hits it.0
    (all_of (λ y. passes terms params (under row y) ≡ hits y) (λ y. same y.0 y.1) it.0)) in
    let reached : IsPermutation (chosen_rows terms params (db tree)) (map (under row) kept) =
    subst (IsPermutation _) which (IsPermutation-filter (passes terms params) _ _ it.1) in
    let rising = ascending-map (λ (a b : Row). value_cmp (column a (suc at)) (column b (suc at)) ≡ Less) (under row) kept
    (ascending_from_map (λ (a b : X). value_cmp (column (row a) at) (column (row b) at) ≡ Less) (λ (y : ℤ × X). y.1) kept (subst (IsAscending _) picked up)) in
    shows_sorted tree terms project (suc at) db params rows (map (under row) kept) reached rising sure
    ∙ map-map (shown_of project params) (under row) kept
    ∙ map_same (λ (y : ℤ × X). shown_of project params (under row y)) (λ y. shown y.1) (λ y. shows y.0 y.1) kept
    ∙ sym (map-map shown (λ (y : ℤ × X). y.1) kept)
    ∙ ap (map shown) (sym picked)
