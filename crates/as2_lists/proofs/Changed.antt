-- Where numbers are distinct, an element of a number is changed at its place alone.
use Rattle.std.proofs.Common.{◌≡◌, ℕ, zero, suc, ◌+◌, ◌<◌, ◌≢◌, Bool, true, false, cond, List, [], ◌∷◌, ◌++◌, map, take, drop, length, get_or, set, Option, Some, None, refl, sym, ap, ◌∙◌, arith}
use Rattle.std.specs.Prelude.{◌==◌, if◌then◌else◌}
use Rattle.std.specs.List.{AllByRecursion, IsDistinct, position, position_from}
use Rattle.std.proofs.lemmas.Bool.Decides.{nat_tests}
use Rattle.std.proofs.lemmas.Iterator.Adapters.{position_from-zero}
use Rattle.std.proofs.lemmas.List.Edits.{map_over_more}
use Rattle.std.proofs.lemmas.List.Quantifiers.{position-Some}

-- each element of this number, changed so
abbrev pub changed : {X : Type 0} → (X → ℕ) → ℕ → (X → X) → List X → List X
changed number n f xs = map (λ x. if number x == n then f x else x) xs

-- those before place i, changed so, and the others as they were
abbrev pub changed_before : {X : Type 0} → (X → ℕ) → ℕ → (X → X) → ℕ → List X → List X
changed_before number n f i xs = changed number n f (take i xs) ++ drop i xs

-- ---- one after the other

is_one : {X : Type 0} (f : X → X) (x : X) (k n : ℕ) → k ≡ n → f x ≡ (if k == n then f x else x)
is_one f x k n is = by (k == n) (grind (arith, nat_tests))
  where
    by : (b : Bool) → b ≡ true → f x ≡ (if b then f x else x)
    by true so = refl
    by false so = absurd (cc)

is_other : {X : Type 0} (f : X → X) (x : X) (k n : ℕ) → k ≢ n → (if k == n then f x else x) ≡ x
is_other f x k n is = by (k == n) (grind (arith, nat_tests))
  where
    by : (b : Bool) → b ≡ false → (if b then f x else x) ≡ x
    by false so = refl
    by true so = absurd (cc)

pub one_changed : {X : Type 0} (number : X → ℕ) (n : ℕ) (f : X → X) (xs ys : List X) (i : ℕ) (x y : X) → i < length xs → ys ≡ changed_before number n f i xs
    → x ≡ get_or ys i x → number x ≡ n → y ≡ f x
    → set ys i y ≡ changed_before number n f (i + 1) xs
one_changed number n f xs ys i x y lt so here is new =
    ap (set ys i) (new ∙ is_one f x (number x) n is) ∙ map_over_more (λ z. if number z == n then f z else z) xs ys i x lt so here

pub one_left : {X : Type 0} (number : X → ℕ) (n : ℕ) (f : X → X) (xs ys : List X) (i : ℕ) (x : X) → i < length xs → ys ≡ changed_before number n f i xs
    → x ≡ get_or ys i x → number x ≢ n
    → set ys i (get_or ys i x) ≡ changed_before number n f (i + 1) xs
one_left number n f xs ys i x lt so here is =
    ap (set ys i) (sym here ∙ sym (is_other f x (number x) n is)) ∙ map_over_more (λ z. if number z == n then f z else z) xs ys i x lt so here

-- ---- none has the number

apart_by : {X : Type 0} (number : X → ℕ) (n : ℕ) (f : X → X) (x : X) (b : Bool) (xs ys : List X) → b ≡ false → ys ≡ xs → (if b then f x else x) ∷ ys ≡ x ∷ xs
apart_by number n f x true xs ys is same = absurd (cc)
apart_by number n f x false xs ys is same = ap (λ l. x ∷ l) same

apart : {X : Type 0} (number : X → ℕ) (n : ℕ) (f : X → X) (xs : List X) → AllByRecursion (λ k. (k == n) ≡ false) (map number xs) → changed number n f xs ≡ xs
apart number n f [] h = refl
apart number n f (x ∷ xs) h = apart_by number n f x (number x == n) xs (changed number n f xs) h.0 (apart number n f xs h.1)

nowhere_by : {X : Type 0} (number : X → ℕ) (n : ℕ) (x : X) (xs : List X) (b : Bool) (i : ℕ) (o : Option ℕ) → (number x == n) ≡ b → cond b (Some i) o ≡ None
    → (o ≡ None → AllByRecursion (λ k. (k == n) ≡ false) (map number xs)) → AllByRecursion (λ k. (k == n) ≡ false) (number x ∷ map number xs)
nowhere_by number n x xs true i o is none rest = absurd (cc)
nowhere_by number n x xs false i o is none rest = (is, rest none)

nowhere : {X : Type 0} (number : X → ℕ) (n i : ℕ) (xs : List X) → position_from (λ x. number x == n) i xs ≡ None
    → AllByRecursion (λ k. (k == n) ≡ false) (map number xs)
nowhere number n i [] h = tt
nowhere number n i (x ∷ xs) h = nowhere_by number n x xs (number x == n) i (position_from (λ y. number y == n) (i + 1) xs) refl h (nowhere number n (i + 1) xs)

pub changed_nowhere : {X : Type 0} (number : X → ℕ) (n : ℕ) (f : X → X) (xs : List X) → position (λ x. number x == n) xs ≡ None → changed number n f xs ≡ xs
changed_nowhere number n f xs h = apart number n f xs (nowhere number n 0 xs (sym (position_from-zero (λ x. number x == n) xs) ∙ h))

-- ---- one has

same_as : (n k j : ℕ) → (k == n) ≡ true → (k == j) ≡ false → (j == n) ≡ false
same_as n k j h g = grind (arith, nat_tests)

others : {X : Type 0} (number : X → ℕ) (n k : ℕ) (xs : List X) → (k == n) ≡ true → AllByRecursion (λ j. (k == j) ≡ false) (map number xs)
    → AllByRecursion (λ j. (j == n) ≡ false) (map number xs)
others number n k [] is h = tt
others number n k (x ∷ xs) is h = (same_as n k (number x) is h.0, others number n k xs is h.1)

all_at : {X : Type 0} (number : X → ℕ) (P : ℕ → Type 0) (xs : List X) (i : ℕ) (d : X) → AllByRecursion P (map number xs) → i < length xs
    → P (number (get_or xs i d))
all_at number P [] i d h lt = absurd (omega arith)
all_at number P (x ∷ xs) zero d h lt = h.0
all_at number P (x ∷ xs) (suc i) d h lt = all_at number P xs i d h.1 (omega arith)

earlier : (n k j : ℕ) → (j == n) ≡ true → (k == j) ≡ false → (k == n) ≡ false
earlier n k j h g = grind (arith, nat_tests)

first_by : {X : Type 0} (f : X → X) (x : X) (b : Bool) (xs ys : List X) → b ≡ true → ys ≡ xs → f x ∷ xs ≡ (if b then f x else x) ∷ ys
first_by f x true xs ys is same = ap (λ l. f x ∷ l) (sym same)
first_by f x false xs ys is same = absurd (cc)

later_by : {X : Type 0} (f : X → X) (x : X) (b : Bool) (xs ys : List X) → b ≡ false → xs ≡ ys → x ∷ xs ≡ (if b then f x else x) ∷ ys
later_by f x true xs ys is same = absurd (cc)
later_by f x false xs ys is same = ap (λ l. x ∷ l) same

at_place : {X : Type 0} (number : X → ℕ) (n : ℕ) (f : X → X) (xs : List X) (i : ℕ) (d : X) → IsDistinct (λ a b. a == b) (map number xs) → i < length xs
    → (number (get_or xs i d) == n) ≡ true
    → set xs i (f (get_or xs i d)) ≡ changed number n f xs
unfolding IsDistinct
at_place number n f [] i d h lt is = absurd (omega arith)
at_place number n f (x ∷ xs) zero d h lt is =
    first_by f x (number x == n) xs (changed number n f xs) is (apart number n f xs (others number n (number x) xs is h.0))
at_place number n f (x ∷ xs) (suc i) d h lt is =
    let rest : i < length xs = omega arith in
    later_by f x (number x == n) (set xs i (f (get_or xs i d))) (changed number n f xs)
    (earlier n (number x) (number (get_or xs i d)) is (all_at number (λ k. (number x == k) ≡ false) xs i d h.0 rest)) (at_place number n f xs i d h.1 rest is)

pub changed_at : {X : Type 0} (number : X → ℕ) (n : ℕ) (f : X → X) (xs : List X) (i : ℕ) (d : X) → IsDistinct (λ a b. a == b) (map number xs)
    → position (λ x. number x == n) xs ≡ Some i
    → set xs i (f (get_or xs i d)) ≡ changed number n f xs
changed_at number n f xs i d distinct found =
    let it = position-Some (λ x. number x == n) xs i d found in
    at_place number n f xs i d distinct it.0 it.1
