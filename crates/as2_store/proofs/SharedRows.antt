-- Rows whose numbers say nothing, as entries in some order: those that a statement picks are put in, or are taken out.
use Rattle.std.proofs.Common.{◌≡◌, ◌∙◌, ℕ, ℤ, List, [], ◌∷◌, ◌++◌, map, filter, drop, Bool, true, false, cond, not, refl, sym, ap, subst, IsPermutation, append_assoc, append-nil}
use Rattle.std.proofs.lemmas.List.{map-append}
use Rattle.std.proofs.lemmas.List.Elements.{filter_agree}
use Rattle.std.proofs.lemmas.List.Sorted.{IsPermutation-refl, IsPermutation-sym, IsPermutation-trans, IsPermutation-map, IsPermutation-cons, IsPermutation-append_right, IsPermutation-middle}
use Rattle.sqlite.specs.declared.types.Value.TheVariants.{Null, Int}
use Rattle.sqlite.specs.Cast.{cast_row}
use Rattle.sqlite.specs.Edit.{next_rowid, numbered, put_all}
use Rattle.sqlite.specs.Order.{Row}
use Rattle.sqlite.specs.Rowids.TheVariants.{Chosen}
use Rattle.sqlite.specs.Table.{Table}
use Rattle.sqlite.specs.Term.{Term}
use Rattle.sqlite.specs.Tree.{Trees, put_row, IsTable}
use Rattle.sqlite_keyed.proofs.ListLemmas.{IsPermutation-filter}
use Rattle.sqlite_trees.proofs.ListLemmas.{ascending-filter, ascending-map, ascending_from_map, filter-map, map-map, pull_back}
use Rattle.sql_tables.specs.Changes.{HasRows, chosen_rows, numbered_row, passes, shown_of}
use Rattle.sql_tables.proofs.Queries.{map_same}
use Rattle.sql_tables.proofs.Sorting.{one_more_row}

-- ---- rows whose numbers are chosen

pub puts_chosen : (rows : List Row) (cs shown : List Row) → HasRows rows shown
    → HasRows (put_all rows (numbered Chosen rows (map (λ c. Null ∷ c) cs))) (shown ++ cs)
puts_chosen rows [] shown has = subst (HasRows rows) (sym (append-nil shown)) has
puts_chosen rows (c ∷ cs) shown has =
    let next = put_row (Int (next_rowid rows) ∷ c) rows in
    subst (HasRows (put_all next (numbered Chosen next (map (λ c. Null ∷ c) cs)))) (append_assoc shown (c ∷ []) cs)
    (puts_chosen next cs (shown ++ c ∷ []) (one_more_row rows shown c has))

-- ---- entries in some order

-- those that pass, and those that don't, are all
pub parted : {X : Type 0} (p : X → Bool) (xs : List X) → IsPermutation (filter p xs ++ filter (λ x. not (p x)) xs) xs
parted p [] = IsPermutation-refl []
parted p (x ∷ xs) = go (p x) (parted p xs)
  where
    go : (b : Bool) → IsPermutation (filter p xs ++ filter (λ x. not (p x)) xs) xs
        → IsPermutation (cond b (x ∷ filter p xs) (filter p xs) ++ cond (not b) (x ∷ filter (λ x. not (p x)) xs) (filter (λ x. not (p x)) xs)) (x ∷ xs)
    go true more = IsPermutation-cons x _ _ more
    go false more = IsPermutation-trans _ _ _ (IsPermutation-middle (filter p xs) x (filter (λ x. not (p x)) xs)) (IsPermutation-cons x _ _ more)

-- what is shared out stays all, where some of what is left is moved
pub shared : {X : Type 0} (p : X → Bool) (moved left all : List X) → IsPermutation (moved ++ left) all
    → IsPermutation ((moved ++ filter p left) ++ filter (λ x. not (p x)) left) all
shared p moved left all are =
    IsPermutation-trans _ _ _
    (subst (λ l. IsPermutation l (moved ++ left)) (sym (append_assoc moved (filter p left) (filter (λ x. not (p x)) left)))
    (IsPermutation-append_right moved _ _ (parted p left))) are

module _ {X : Type 0} (row : X → Row) where
  abbrev pub under : ℤ × X → Row
  under y = Int y.0 ∷ row y.1

  entries_under : (rs : List (ℤ × Row)) (xs : List X) → map (λ r. r.1) rs ≡ map row xs → (ys : List (ℤ × X)) × (map numbered_row rs ≡ map under ys)
      × (xs ≡ map (λ y. y.1) ys)
  entries_under [] [] e = ([], refl, refl)
  entries_under [] (x ∷ xs) e = absurd cc
  entries_under (r ∷ rs) [] e = absurd cc
  entries_under (r ∷ rs) (x ∷ xs) e =
      let head : r.1 ≡ row x = cc in
      let later = entries_under rs xs cc in
      ((r.0, x) ∷ later.0, (λ i. (Int r.0 ∷ head i) ∷ later.1 i), ap (λ l. x ∷ l) later.2)

  -- the entries under their numbers, in the order of the rows
  pub record AreUnder (rows : List Row) (xs : List X) : Type 0 where
    pub entries : List (ℤ × X)
    pub rows_are : rows ≡ map under entries
    pub same : IsPermutation (map (λ y. y.1) entries) xs

  pub are_under : (rows : List Row) (xs : List X) → HasRows rows (map row xs) → AreUnder rows xs
  are_under rows xs h =
      let back = pull_back row _ _ (IsPermutation-sym _ _ h.columns) xs refl in
      let it = entries_under h.numbered back.0 back.2 in
      record { entries = it.0; rows_are = h.rows_are ∙ it.1; same = subst (λ l. IsPermutation l xs) it.2 (IsPermutation-sym _ _ back.1) }

  -- where a test on entries says what WHERE says of their rows
  module _ (terms : List Term) (params : Row) (p : X → Bool) (tests : (n : ℤ) (x : X) → passes terms params (Int n ∷ row x) ≡ p x) where
    abbrev hits : ℤ × X → Bool
    hits y = p y.1

    -- the rows of those that are left, once the picked ones were taken out
    pub keeps_rest : (rows : List Row) (xs : List X) → HasRows rows (map row xs) → (it : AreUnder rows xs)
        → HasRows (map under (filter (λ y. not (passes terms params (under y))) it.entries)) (map row (filter (λ x. not (p x)) xs))
    keeps_rest rows xs has it =
        let rest = filter (λ y. not (hits y)) it.entries in
        let picks : filter (λ y. not (passes terms params (under y))) it.entries ≡ rest =
        filter_agree (λ (y : ℤ × X). not (passes terms params (under y))) (λ y. not (hits y)) (λ y. ap not (tests y.0 y.1)) it.entries in
        let up : IsTable (map under rest) =
        ascending-map _ under _ (ascending-filter _ (λ (y : ℤ × X). not (hits y)) it.entries
        (ascending_from_map _ under it.entries (subst IsTable it.rows_are has.rise))) in
        let kept : IsPermutation (map (λ y. y.1) rest) (filter (λ x. not (p x)) xs) =
        subst (λ l. IsPermutation l (filter (λ x. not (p x)) xs)) (filter-map (λ (x : X). not (p x)) (λ (y : ℤ × X). y.1) it.entries)
        (IsPermutation-filter (λ x. not (p x)) _ _ it.same) in
        subst (λ l. HasRows (map under l) (map row (filter (λ x. not (p x)) xs))) (sym picks)
        (record {
          numbered = map (λ y. (y.0, row y.1)) rest;
          rows_are = sym (map-map numbered_row (λ (y : ℤ × X). (y.0, row y.1)) rest);
          rise = up;
          columns = subst (λ l. IsPermutation l (map row (filter (λ x. not (p x)) xs)))
              (map-map row (λ (y : ℤ × X). y.1) rest ∙ sym (map-map (λ (r : ℤ × Row). r.1) (λ (y : ℤ × X). (y.0, row y.1)) rest))
              (IsPermutation-map row _ _ kept);
        })

    -- a table has the rows of the picked ones too, once what a query shows of them was put in
    pub puts_picked : (table : Table) (tree : ℕ) (project : List Term) (db : Trees) (sources : List Row) (xs : List X) → HasRows (db tree) (map row xs)
        → ((n : ℤ) (x : X) → shown_of project params (Int n ∷ row x) ≡ Null ∷ row x) → ((x : X) → cast_row table (Null ∷ row x) ≡ Null ∷ row x)
        → IsPermutation (map (shown_of project params) (chosen_rows terms params (db tree))) sources → (rows : List Row) (there : List X)
        → HasRows rows (map row there)
        → HasRows (put_all rows (numbered Chosen rows (map (λ s. cast_row table (drop 0 s)) sources))) (map row (there ++ filter p xs))
    puts_picked table tree project db sources xs has shows casts same rows there held =
        let it = are_under (db tree) xs has in
        let f = λ (x : X). Null ∷ row x in
        let picked = filter hits it.entries in
        let picks : chosen_rows terms params (db tree) ≡ map under picked =
        ap (chosen_rows terms params) it.rows_are ∙ filter-map (passes terms params) under it.entries
        ∙ ap (map under) (filter_agree (λ (y : ℤ × X). passes terms params (under y)) hits (λ y. tests y.0 y.1) it.entries) in
        let shown : map (shown_of project params) (chosen_rows terms params (db tree)) ≡ map f (filter p (map (λ y. y.1) it.entries)) =
        ap (map (shown_of project params)) picks
        ∙ map-map (shown_of project params) under picked
        ∙ map_same (λ (y : ℤ × X). shown_of project params (under y)) (λ y. f y.1) (λ y. shows y.0 y.1) picked
        ∙ sym (map-map f (λ (y : ℤ × X). y.1) picked)
        ∙ ap (map f) (sym (filter-map p (λ (y : ℤ × X). y.1) it.entries)) in
        let all : IsPermutation (map f (filter p xs)) sources =
        IsPermutation-trans _ _ _ (IsPermutation-sym _ _ (IsPermutation-map f _ _ (IsPermutation-filter p _ _ it.same)))
        (subst (λ l. IsPermutation l sources) shown same) in
        let cast = λ (s : Row). cast_row table (drop 0 s) in
        let kept : map cast (map f (filter p xs)) ≡ map f (filter p xs) = map-map cast f (filter p xs)
        ∙ map_same (λ (x : X). cast (f x)) f casts (filter p xs) in
        let news : IsPermutation (map f (filter p xs)) (map cast sources) =
        subst (λ l. IsPermutation l (map cast sources)) kept (IsPermutation-map cast _ _ all) in
        let back = pull_back f _ _ news (filter p xs) refl in
        let cells : map f back.0 ≡ map (λ c. Null ∷ c) (map row back.0) = sym (map-map (λ (c : Row). Null ∷ c) row back.0) in
        let put : HasRows (put_all rows (numbered Chosen rows (map cast sources))) (map row there ++ map row back.0) =
        subst (λ l. HasRows (put_all rows (numbered Chosen rows l)) (map row there ++ map row back.0)) (sym (back.2 ∙ cells))
        (puts_chosen rows (map row back.0) (map row there) held) in
        record {
          numbered = put.numbered;
          rows_are = put.rows_are;
          rise = put.rise;
          columns = IsPermutation-trans _ _ _ put.columns
              (subst (IsPermutation (map row there ++ map row back.0)) (sym (map-append row there (filter p xs)))
              (IsPermutation-append_right (map row there) _ _ (IsPermutation-map row _ _ (IsPermutation-sym _ _ back.1))));
        }
