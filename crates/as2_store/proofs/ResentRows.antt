-- The rows of `resent`, and which documents are begun by them.
use Rattle.std.proofs.Common.{◌≡◌, ◌∙◌, ℕ, ◌<◌, ◌==◌, ◌&&◌, ◌||◌, not, nat_le, nat_lt, List, [], ◌∷◌, ◌++◌, map, filter, Bool, true, false, cond, refl, sym, ap, ap₂, subst, arith, append-nil}
use Rattle.std.specs.List.{AllByRecursion}
use Rattle.std.proofs.lemmas.Bool.Decides.{nat_tests}
use Rattle.std.proofs.lemmas.List.Elements.{filter-append}
use Rattle.sqlite.specs.Order.{Row}
use Rattle.sqlite.specs.Tree.{put_row, IsTable, IsAscending}
use Rattle.sqlite_trees.proofs.ListLemmas.{filter_same, all_from_map, ascending-filter}
use Rattle.as2_exchange.proofs.Lists.{all_weaken, map_last, map_kept}
use Rattle.as2_exchange.specs.Invariants.{AreNumbers}
use Rattle.as2_exchange.specs.declared.outbox.OutEntry.{OutEntry}
use Rattle.as2_store.specs.Stands.{HasResent, numbers_of, resent_row}
use Rattle.as2_store.specs.Resending.{IsMarked}
use Rattle.as2_store.proofs.NumberedEntries.{Split, changed, out_number}
use Rattle.as2_store.proofs.NumberedRows.{ordered_rise, numbers_rise, puts_between}

-- ---- a document more

-- numbers below are told apart from this one
before : (was : ℕ → Bool) (n : ℕ) (ns : List ℕ) → AllByRecursion (λ k. k < n) ns → AllByRecursion (λ k. (was k && nat_lt k n) ≡ was k) ns
before was n ns low = all_weaken (λ k. k < n) (λ k. (was k && nat_lt k n) ≡ was k) (λ k less. one (was k) k less) ns low
  where
    below : (k : ℕ) → k < n → nat_lt k n ≡ true
    below k less = grind (arith, nat_tests)

    one : (b : Bool) (k : ℕ) → k < n → (b && nat_lt k n) ≡ b
    one true k less = below k less
    one false k less = refl

none_of_it : (b : Bool) (n : ℕ) → (b && nat_lt n n) ≡ false
none_of_it true n = grind (arith, nat_tests)
none_of_it false n = refl

-- what was told of lower numbers alone
abbrev lower : (ℕ → Bool) → ℕ → ℕ → Bool
lower was n k = was k && nat_lt k n

pub resent_more : (rows : List Row) (next : ℕ) (ds : List OutEntry) (x : OutEntry) → AreNumbers next (numbers_of ds) → x.number ≡ next
    → x.begun ≡ nat_le 1 x.tries → HasResent rows ds → HasResent rows (ds ++ x ∷ [])
resent_more rows next ds x numbers is tried it = record {
  was = lower it.was x.number;
  rows_are = it.rows_are ∙ ap (map resent_row) (sym same);
  begun = push ds (all_from_map (λ k. lower it.was x.number k ≡ it.was k) (λ (d : OutEntry). d.number) ds old) it.begun;
}
  where
    low : AllByRecursion (λ k. k < x.number) (numbers_of ds)
    low = subst (λ n. AllByRecursion (λ k. k < n) (numbers_of ds)) (sym is) numbers.below

    old : AllByRecursion (λ k. lower it.was x.number k ≡ it.was k) (numbers_of ds)
    old = before it.was x.number (numbers_of ds) low

    same : filter (lower it.was x.number) (numbers_of (ds ++ x ∷ [])) ≡ filter it.was (numbers_of ds)
    same =
        ap (filter (lower it.was x.number)) (map_last (λ (d : OutEntry). d.number) ds x)
        ∙ filter-append (lower it.was x.number) (numbers_of ds) (x.number ∷ [])
        ∙ ap₂ ◌++◌ (filter_same (lower it.was x.number) it.was (numbers_of ds) old)
        (ap (λ t. cond t (x.number ∷ []) []) (none_of_it (it.was x.number) x.number))
        ∙ append-nil (filter it.was (numbers_of ds))

    either : (a b : Bool) → b ≡ false → a ≡ (a || b)
    either true b is = refl
    either false b is = sym is

    push : (ds : List OutEntry) → AllByRecursion (λ d. lower it.was x.number d.number ≡ it.was d.number) ds
        → AllByRecursion (λ d. d.begun ≡ (nat_le 1 d.tries || it.was d.number)) ds
        → AllByRecursion (λ d. d.begun ≡ (nat_le 1 d.tries || lower it.was x.number d.number)) (ds ++ x ∷ [])
    push [] same all = (tried ∙ either (nat_le 1 x.tries) (lower it.was x.number x.number) (none_of_it (it.was x.number) x.number), tt)
    push (d ∷ ds) same all = (all.0 ∙ ap (λ b. nat_le 1 d.tries || b) (sym same.0), push ds same.1 all.1)

-- ---- documents that are changed, but for their tries

pub resent_map : (g : OutEntry → OutEntry) → ((d : OutEntry) → (g d).number ≡ d.number) → ((d : OutEntry) → (g d).begun ≡ d.begun)
    → ((d : OutEntry) → (g d).tries ≡ d.tries)
    → (rows : List Row) (ds : List OutEntry) → HasResent rows ds → HasResent rows (map g ds)
resent_map g number begun tries rows ds it = record {
  was = it.was;
  rows_are = it.rows_are ∙ ap (λ ns. map resent_row (filter it.was ns)) (sym (map_kept (λ (d : OutEntry). d.number) g number ds));
  begun = each ds it.begun;
}
  where
    each : (ds : List OutEntry) → AllByRecursion (λ d. d.begun ≡ (nat_le 1 d.tries || it.was d.number)) ds
        → AllByRecursion (λ d. d.begun ≡ (nat_le 1 d.tries || it.was d.number)) (map g ds)
    each [] all = tt
    each (d ∷ ds) all = (begun d ∙ all.0 ∙ sym (ap₂ (λ t n. nat_le 1 t || it.was n) (tries d) (number d)), each ds all.1)

-- the one of a number is changed so
pub resent_changed : (f : OutEntry → OutEntry) → ((d : OutEntry) → (f d).number ≡ d.number) → ((d : OutEntry) → (f d).begun ≡ d.begun)
    → ((d : OutEntry) → (f d).tries ≡ d.tries)
    → (n : ℕ) (rows : List Row) (ds : List OutEntry) → HasResent rows ds → HasResent rows (changed out_number n f ds)
resent_changed f number begun tries n rows ds it =
    resent_map (λ d. cond (d.number == n) (f d) d) (λ d. same_number d (d.number == n)) (λ d. same_begun d (d.number == n))
    (λ d. same_tries d (d.number == n)) rows ds it
  where
    same_number : (d : OutEntry) (t : Bool) → (cond t (f d) d).number ≡ d.number
    same_number d true = number d
    same_number d false = refl

    same_begun : (d : OutEntry) (t : Bool) → (cond t (f d) d).begun ≡ d.begun
    same_begun d true = begun d
    same_begun d false = refl

    same_tries : (d : OutEntry) (t : Bool) → (cond t (f d) d).tries ≡ d.tries
    same_tries d true = tries d
    same_tries d false = refl

-- ---- the order of the rows

pub resent_in_order : (was : ℕ → Bool) (next : ℕ) (ns : List ℕ) → AreNumbers next ns → IsTable (map resent_row (filter was ns))
resent_in_order was next ns h =
    ordered_rise resent_row (λ k. k) (λ _. refl) (filter was ns) (ascending-filter (λ a b. a < b) was ns (rise ns h))
  where
    all_same : (ns : List ℕ) → map (λ (k : ℕ). k) ns ≡ ns
    all_same [] = refl
    all_same (k ∷ ns) = ap (λ l. k ∷ l) (all_same ns)

    rise : (ns : List ℕ) → AreNumbers next ns → IsAscending (λ a b. a < b) ns
    rise ns h = numbers_rise (λ (k : ℕ). k) next ns (subst (AreNumbers next) (sym (all_same ns)) h)

-- ---- a row more, for the document of one number

other_below : (n : ℕ) (ks : List ℕ) → AllByRecursion (λ k. k < n) ks → AllByRecursion (λ k. (k == n) ≡ false) ks
other_below n ks low = all_weaken (λ k. k < n) (λ k. (k == n) ≡ false) (λ k less. one k less) ks low
  where
    one : (k : ℕ) → k < n → (k == n) ≡ false
    one k less = grind (arith, nat_tests)

other_above : (n : ℕ) (ks : List ℕ) → AllByRecursion (λ k. n < k) ks → AllByRecursion (λ k. (k == n) ≡ false) ks
other_above n ks high = all_weaken (λ k. n < k) (λ k. (k == n) ≡ false) (λ k less. one k less) ks high
  where
    one : (k : ℕ) → n < k → (k == n) ≡ false
    one k less = grind (arith, nat_tests)

module _ (was : ℕ → Bool) (n : ℕ) where
  abbrev pub or_this : ℕ → Bool
  or_this k = was k || k == n

  abbrev not_this : List ℕ → List ℕ
  not_this ks = filter (λ k. not (k == n)) (filter was ks)

  untaken : (ks : List ℕ) → AllByRecursion (λ k. (k == n) ≡ false) ks → not_this ks ≡ filter was ks
  untaken [] other = refl
  untaken (k ∷ ks) other = go (was k) (untaken ks other.1)
    where
      go : (t : Bool) → not_this ks ≡ filter was ks
          → filter (λ k. not (k == n)) (cond t (k ∷ filter was ks) (filter was ks)) ≡ cond t (k ∷ filter was ks) (filter was ks)
      go true rest = ap (λ t. cond (not t) (k ∷ not_this ks) (not_this ks)) other.0 ∙ ap (λ l. k ∷ l) rest
      go false rest = rest

  no_more : (ks : List ℕ) → AllByRecursion (λ k. (k == n) ≡ false) ks → filter or_this ks ≡ filter was ks
  no_more ks other = filter_same or_this was ks
      (all_weaken (λ k. (k == n) ≡ false) (λ k. or_this k ≡ was k) (λ k is. ap (λ t. was k || t) is ∙ or_false (was k)) ks other)
    where
      or_false : (b : Bool) → (b || false) ≡ b
      or_false true = refl
      or_false false = refl

  taken_first : (k : ℕ) (ks : List ℕ) → k ≡ n → AllByRecursion (λ k. (k == n) ≡ false) ks → not_this (k ∷ ks) ≡ filter was ks
  taken_first k ks here other = go (was k) (untaken ks other)
    where
      itself : (k n : ℕ) → k ≡ n → (k == n) ≡ true
      itself k n same = grind (arith, nat_tests, same)

      go : (t : Bool) → not_this ks ≡ filter was ks → filter (λ k. not (k == n)) (cond t (k ∷ filter was ks) (filter was ks)) ≡ filter was ks
      go true rest = ap (λ t. cond (not t) (k ∷ not_this ks) (not_this ks)) (itself k n here) ∙ rest
      go false rest = rest

  put_first : (k : ℕ) (ks : List ℕ) → k ≡ n → AllByRecursion (λ k. (k == n) ≡ false) ks → filter or_this (k ∷ ks) ≡ k ∷ filter was ks
  put_first k ks here other = ap (λ t. cond t (k ∷ filter or_this ks) (filter or_this ks)) (or_true (was k) (k == n) (itself k n here))
      ∙ ap (λ l. k ∷ l) (no_more ks other)
    where
      itself : (k n : ℕ) → k ≡ n → (k == n) ≡ true
      itself k n same = grind (arith, nat_tests, same)

      or_true : (a b : Bool) → b ≡ true → (a || b) ≡ true
      or_true true b is = refl
      or_true false b is = is

  low_filtered : (ks : List ℕ) → AllByRecursion (λ k. k < n) ks → AllByRecursion (λ k. k < n) (filter was ks)
  low_filtered [] all = tt
  low_filtered (k ∷ ks) all = go (was k) (low_filtered ks all.1)
    where
      go : (t : Bool) → AllByRecursion (λ k. k < n) (filter was ks) → AllByRecursion (λ k. k < n) (cond t (k ∷ filter was ks) (filter was ks))
      go true rest = (all.0, rest)
      go false rest = rest

  high_filtered : (ks : List ℕ) → AllByRecursion (λ k. n < k) ks → AllByRecursion (λ k. n < k) (filter was ks)
  high_filtered [] all = tt
  high_filtered (k ∷ ks) all = go (was k) (high_filtered ks all.1)
    where
      go : (t : Bool) → AllByRecursion (λ k. n < k) (filter was ks) → AllByRecursion (λ k. n < k) (cond t (k ∷ filter was ks) (filter was ks))
      go true rest = (all.0, rest)
      go false rest = rest

  -- its row is taken out, if it is there, and put in
  pub marks : (ns : List ℕ) → Split (λ (k : ℕ). k) n ns → put_row (resent_row n) (map resent_row (not_this ns)) ≡ map resent_row (filter or_this ns)
  marks ns it =
      let front = other_below n it.front it.low in
      let back = other_above n it.back it.high in
      let out : not_this ns ≡ filter was it.front ++ filter was it.back =
      ap not_this it.whole
      ∙ ap (filter (λ k. not (k == n))) (filter-append was it.front (it.one ∷ it.back))
      ∙ filter-append (λ k. not (k == n)) (filter was it.front) (filter was (it.one ∷ it.back))
      ∙ ap₂ ◌++◌ (untaken it.front front) (taken_first it.one it.back it.here back) in
      let into : filter or_this ns ≡ filter was it.front ++ n ∷ filter was it.back =
      ap (filter or_this) it.whole
      ∙ filter-append or_this it.front (it.one ∷ it.back)
      ∙ ap₂ ◌++◌ (no_more it.front front) (put_first it.one it.back it.here back ∙ ap (λ k. k ∷ filter was it.back) it.here) in
      ap (λ l. put_row (resent_row n) (map resent_row l)) out
      ∙ puts_between resent_row (λ (k : ℕ). k) (λ _. refl) n (filter was it.front) (filter was it.back) (low_filtered it.front it.low)
      (high_filtered it.back it.high)
      ∙ ap (map resent_row) (sym into)

-- the document of this number was tried, and now has a row
pub now_marked : (rows : List Row) (n : ℕ) (ds : List OutEntry) → AllByRecursion (λ d. (d.number == n) ≡ true → nat_le 1 d.tries ≡ true) ds
    → (it : HasResent rows ds)
    → (new : List Row) → new ≡ map resent_row (filter (or_this it.was n) (numbers_of ds)) → IsMarked new ds n
now_marked rows n ds tried it new is = record {
  resent = record { was = or_this it.was n; rows_are = is; begun = each ds tried it.begun };
  own = owns ds tried it.begun;
}
  where
    both : (d : OutEntry) (t w : Bool) → (d.number == n) ≡ t → (t ≡ true → nat_le 1 d.tries ≡ true) → d.begun ≡ (nat_le 1 d.tries || w)
        → d.begun ≡ (nat_le 1 d.tries || (w || t))
    both d true w same must is = is ∙ ap (λ b. b || w) (must refl) ∙ sym (ap (λ b. b || (w || true)) (must refl))
    both d false true same must is = is
    both d false false same must is = is

    each : (ds : List OutEntry) → AllByRecursion (λ d. (d.number == n) ≡ true → nat_le 1 d.tries ≡ true) ds
        → AllByRecursion (λ d. d.begun ≡ (nat_le 1 d.tries || it.was d.number)) ds
        → AllByRecursion (λ d. d.begun ≡ (nat_le 1 d.tries || or_this it.was n d.number)) ds
    each [] tried all = tt
    each (d ∷ ds) tried all = (both d (d.number == n) (it.was d.number) refl tried.0 all.0, each ds tried.1 all.1)

    or_true : (a b : Bool) → b ≡ true → true ≡ (a || b)
    or_true true b is = refl
    or_true false b is = sym is

    owns : (ds : List OutEntry) → AllByRecursion (λ d. (d.number == n) ≡ true → nat_le 1 d.tries ≡ true) ds
        → AllByRecursion (λ d. d.begun ≡ (nat_le 1 d.tries || it.was d.number)) ds
        → AllByRecursion (λ d. (d.number == n) ≡ true → d.begun ≡ or_this it.was n d.number) ds
    owns [] tried all = tt
    owns (d ∷ ds) tried all =
        (λ here. all.0 ∙ ap (λ b. b || it.was d.number) (tried.0 here) ∙ or_true (it.was d.number) (d.number == n) here, owns ds tried.1 all.1)

-- it was not tried, so its row alone tells
pub marked_before : (rows : List Row) (n : ℕ) (ds : List OutEntry) → AllByRecursion (λ d. (d.number == n) ≡ true → nat_le 1 d.tries ≡ false) ds
    → HasResent rows ds → IsMarked rows ds n
marked_before rows n ds untried it = record { resent = it; own = owns ds untried it.begun }
  where
    owns : (ds : List OutEntry) → AllByRecursion (λ d. (d.number == n) ≡ true → nat_le 1 d.tries ≡ false) ds
        → AllByRecursion (λ d. d.begun ≡ (nat_le 1 d.tries || it.was d.number)) ds
        → AllByRecursion (λ d. (d.number == n) ≡ true → d.begun ≡ it.was d.number) ds
    owns [] untried all = tt
    owns (d ∷ ds) untried all = (λ here. all.0 ∙ ap (λ b. b || it.was d.number) (untried.0 here), owns ds untried.1 all.1)
