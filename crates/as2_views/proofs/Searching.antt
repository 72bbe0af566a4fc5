-- A number is looked for among numbers that rise.
use Rattle.std.proofs.Common.{◌≡◌, ◌∙◌, ◌==◌, ℕ, ◌<◌, ◌≤◌, zero, suc, true, false, List, [], ◌∷◌, length, sym, ap, arith}
use Rattle.std.proofs.Math.ListN.{get_or}
use Rattle.std.specs.Prelude.{Ok, Err}
use Rattle.std.specs.Ordering.{nat_cmp}
use Rattle.std.specs.declared.result.Result.{Result}
use Rattle.std.specs.Result.{is_ok}
use Rattle.std.specs.List.{AllByRecursion}
use Rattle.std.specs.List.Sorted.{IsBinarySearchResult}
use Rattle.std.proofs.lemmas.Bool.Decides.{nat_tests}
use Rattle.std.proofs.lemmas.Grind.{get_or_default_zero}
use Rattle.std.proofs.lemmas.List.Folds.{list_any_at, list_any_none}
use Rattle.std.proofs.lemmas.List.Sorted.{searched}
use Rattle.as2_views.specs.Lists.{Rise, is_one_of}

same : (a b : ℕ) → a ≡ b → (a == b) ≡ true
same a b h = grind (arith, nat_tests)

pub above : (a b : ℕ) → a < b → (b == a) ≡ false
above a b h = grind (arith, nat_tests)

pub below : (a b : ℕ) → a < b → (a == b) ≡ false
below a b h = grind (arith, nat_tests)

parted : (a n k i : ℕ) → (k < i → a < n) → (i ≤ k → n < a) → (a == n) ≡ false
parted a n k i low high = grind (arith, nat_tests)

later : (n : ℕ) (ns : List ℕ) (j : ℕ) → AllByRecursion (λ k. n < k) ns → j < length ns → n < get_or ns j 0
later n [] j h l = absurd (omega (arith, l))
later n (k ∷ ns) zero h l = h.0
later n (k ∷ ns) (suc j) h l = later n ns j h.1 (omega (arith, l))

in_order : (ns : List ℕ) → Rise ns → (i j : ℕ) → i ≤ j → j < length ns → get_or ns i 0 ≤ get_or ns j 0
in_order [] up i j le l = absurd (omega (arith, l))
in_order (n ∷ ns) up zero zero le l = omega arith
in_order (n ∷ ns) up zero (suc j) le l = omega (arith, later n ns j up.0 (omega (arith, l)))
in_order (n ∷ ns) up (suc i) zero le l = absurd (omega (arith, le))
in_order (n ∷ ns) up (suc i) (suc j) le l = in_order ns up.1 i j (omega (arith, le)) (omega (arith, l))

-- the search finds the number exactly where it is one of them
pub found : (numbers : List ℕ) (n : ℕ) (r : Result ℕ ℕ) → Rise numbers → IsBinarySearchResult (λ k. nat_cmp k n) numbers r → is_ok r ≡ is_one_of numbers n
found numbers n (Ok i) up at =
    let s = searched numbers n (Ok i) at (in_order numbers up) in
    sym (list_any_at (λ k. k == n) numbers i 0 s.0 (same (get_or numbers i 0) n s.1))
found numbers n (Err i) up at =
    let s = searched numbers n (Err i) at (in_order numbers up) in
    sym (list_any_none (λ k. k == n) numbers
    (λ k d l. ap (λ a. a == n) (get_or_default_zero numbers k d l) ∙ parted (get_or numbers k 0) n k i (s.1 k) (λ le. s.2 k le l)))
