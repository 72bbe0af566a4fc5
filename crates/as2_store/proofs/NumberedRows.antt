-- The rows of entries whose numbers rise, and where a row goes among them.
use Rattle.std.proofs.Common.{◌≡◌, ℕ, ◌<◌, ◌==◌, List, [], ◌∷◌, ◌++◌, map, Option, Some, None, IfSome, Bool, cond, pos, nat_lt, Less, Greater, true, false, refl, sym, ap, subst, subst₂, ◌∙◌, arith}
use Rattle.std.specs.List.{AllByRecursion, IsDistinct, filter_map, cons_option, find}
use Rattle.std.specs.Ordering.{match_ordering}
use Rattle.std.proofs.lemmas.Int.{ints}
use Rattle.std.proofs.lemmas.Bool.Decides.{nat_tests}
use Rattle.sqlite.specs.declared.types.Value.TheVariants.{Int}
use Rattle.sqlite.specs.Order.{Row, value_cmp}
use Rattle.sqlite.specs.Tree.{rowid, put_row, IsTable, IsAscending}
use Rattle.sqlite_value.proofs.OrderLemmas.{value_cmp-Int}
use Rattle.sqlite_trees.proofs.ListLemmas.{ascending-map, ascending_from_map, ascending_weaker}
use Rattle.sqlite_keyed.proofs.KeyedLemmas.{Less-from_lt}
use Rattle.as2_exchange.specs.Invariants.{AreNumbers}
use Rattle.as2_exchange.proofs.Finds.{all_found}

-- a lower number is a lower rowid
pub rises : (m n : ℕ) → m < n → value_cmp (Int (pos m)) (Int (pos n)) ≡ Less
rises m n h = value_cmp-Int (pos m) (pos n) ∙ Less-from_lt (pos m) (pos n) (omega (arith, ints))

pub falls : (m n : ℕ) → n < m → value_cmp (Int (pos m)) (Int (pos n)) ≡ Greater
falls m n h = value_cmp-Int (pos m) (pos n) ∙ (grind (arith, ints))

above : (n : ℕ) (ns : List ℕ) → AllByRecursion (λ m. (n == m) ≡ false) ns → AllByRecursion (λ m. nat_lt m n ≡ false) ns → AllByRecursion (λ m. n < m) ns
above n [] other no_lower = tt
above n (m ∷ ns) other no_lower = (one m other.0 no_lower.0, above n ns other.1 no_lower.1)
  where
    one : (m : ℕ) → (n == m) ≡ false → nat_lt m n ≡ false → n < m
    one m other no_lower = grind (arith, nat_tests)

rising : (ns : List ℕ) → IsDistinct (λ a b. a == b) ns → IsDistinct (λ a b. nat_lt b a) ns → IsAscending (λ a b. a < b) ns
unfolding IsDistinct
rising [] distinct in_order = tt
rising (n ∷ ns) distinct in_order = (above n ns distinct.0 in_order.0, rising ns distinct.1 in_order.1)

pub numbers_rise : {X : Type 0} (at : X → ℕ) (next : ℕ) (xs : List X) → AreNumbers next (map at xs) → IsAscending (λ x y. at x < at y) xs
numbers_rise at next xs h = ascending_from_map (λ a b. a < b) at xs (rising (map at xs) h.distinct h.in_order)

same_number : (n : ℕ) → (n == n) ≡ true
same_number n = grind (arith, nat_tests)

-- an entry that is found is the one of its number
pub found_number : {X : Type 0} (number : X → ℕ) (p : X → Bool) (xs : List X) (e : X) → IsDistinct (λ a b. a == b) (map number xs) → find p xs ≡ Some e
    → find (λ x. number x == number e) xs ≡ Some e
unfolding IsDistinct
found_number number p [] e apart found = absurd cc
found_number {X} number p (x ∷ xs) e apart found = go (p x) found (found_number number p xs e apart.1)
  where
    this : (b : Bool) → b ≡ true → x ≡ e → cond b (Some x) (find (λ y. number y == number e) xs) ≡ Some e
    this true is same = ap Some same
    this false is same = absurd cc

    other : (b : Bool) → b ≡ false → find (λ y. number y == number e) xs ≡ Some e → cond b (Some x) (find (λ y. number y == number e) xs) ≡ Some e
    other true is there = absurd cc
    other false is there = there

    go : (b : Bool) → cond b (Some x) (find p xs) ≡ Some e → (find p xs ≡ Some e → find (λ y. number y == number e) xs ≡ Some e)
        → find (λ y. number y == number e) (x ∷ xs) ≡ Some e
    go true is rest =
        let same : x ≡ e = cc in
        this (number x == number e) (subst (λ (y : X). (number x == number y) ≡ true) same (same_number (number x))) same
    go false is rest = other (number x == number e) (all_found (λ y. (number x == y) ≡ false) number p xs e apart.0 is) (rest is)

-- what some of the entries give rises as they do
module _ {X Y : Type 0} (f : X → Option Y) (at : X → ℕ) (of : Y → ℕ) (kept : (x : X) → IfSome (f x) (λ y. of y ≡ at x)) where
  given_above : (n : ℕ) (xs : List X) → AllByRecursion (λ x. n < at x) xs → AllByRecursion (λ y. n < of y) (filter_map f xs)
  given_above n [] all = tt
  given_above n (x ∷ xs) all = go (f x) (kept x) (given_above n xs all.1)
    where
      go : (o : Option Y) → IfSome o (λ y. of y ≡ at x) → AllByRecursion (λ y. n < of y) (filter_map f xs)
          → AllByRecursion (λ y. n < of y) (cons_option o (filter_map f xs))
      go None is rest = rest
      go (Some y) is rest = (omega (arith, is, all.0), rest)

  pub given_rise : (xs : List X) → IsAscending (λ x y. at x < at y) xs → IsAscending (λ y z. of y < of z) (filter_map f xs)
  given_rise [] up = tt
  given_rise (x ∷ xs) up = go (f x) (kept x) (given_rise xs up.1)
    where
      go : (o : Option Y) → IfSome o (λ y. of y ≡ at x) → IsAscending (λ y z. of y < of z) (filter_map f xs)
          → IsAscending (λ y z. of y < of z) (cons_option o (filter_map f xs))
      go None is rest = rest
      go (Some y) is rest = (given_above (of y) xs (subst (λ n. AllByRecursion (λ x. n < at x) xs) (sym is) up.0), rest)

module _ {X : Type 0} (row : X → Row) (at : X → ℕ) (keyed : (x : X) → rowid (row x) ≡ Int (pos (at x))) where
  -- entries in order of number are the rows of a table
  pub ordered_rise : (xs : List X) → IsAscending (λ x y. at x < at y) xs → IsTable (map row xs)
  ordered_rise xs up =
      ascending-map _ row xs (ascending_weaker (λ x y. at x < at y) (λ x y. value_cmp (rowid (row x)) (rowid (row y)) ≡ Less)
      (λ x y less. subst₂ (λ a b. value_cmp a b ≡ Less) (sym (keyed x)) (sym (keyed y)) (rises (at x) (at y) less)) xs up)

  pub entries_rise : (next : ℕ) (xs : List X) → AreNumbers next (map at xs) → IsTable (map row xs)
  entries_rise next xs h = ordered_rise xs (numbers_rise at next xs h)

  -- a row goes behind those of lower numbers, and before those of greater ones
  pub puts_between : (x : X) (front back : List X) → AllByRecursion (λ q. at q < at x) front → AllByRecursion (λ q. at x < at q) back
      → put_row (row x) (map row (front ++ back)) ≡ map row (front ++ x ∷ back)
  puts_between x [] [] low high = refl
  puts_between x [] (q ∷ back) low high =
      ap (λ o. match_ordering o (row q ∷ put_row (row x) (map row back)) (row x ∷ map row back) (row x ∷ row q ∷ map row back))
      (subst₂ (λ a b. value_cmp a b ≡ Greater) (sym (keyed q)) (sym (keyed x)) (falls (at q) (at x) high.0))
  puts_between x (q ∷ front) back low high =
      ap (λ o. match_ordering o (row q ∷ put_row (row x) (map row (front ++ back))) (row x ∷ map row (front ++ back)) (row x ∷ row q ∷ map row (front ++ back)))
      (subst₂ (λ a b. value_cmp a b ≡ Less) (sym (keyed q)) (sym (keyed x)) (rises (at q) (at x) low.0))
      ∙ ap (λ l. row q ∷ l) (puts_between x front back low.1 high)
