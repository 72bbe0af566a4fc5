-- Entries that pass a test and are behind a number have the numbers behind it of those that pass.
use Rattle.std.proofs.Common.{◌≡◌, ℕ, ◌&&◌, nat_lt, List, [], ◌∷◌, map, filter, Option, Some, None, Bool, true, false, cond, refl, ap}
use Rattle.std.proofs.lemmas.List.Elements.{filter_agree}
use Rattle.as2_records.specs.Due.{is_behind, numbers_behind}

and_true : (b : Bool) → (b && true) ≡ b
and_true true = refl
and_true false = refl

module _ {X : Type 0} (number : X → ℕ) (test : X → Bool) where
  abbrev pub is_wanted : Option ℕ → X → Bool
  is_wanted b x = test x && is_behind b (number x)

  some_behind : (n : ℕ) (xs : List X) → map number (filter (is_wanted (Some n)) xs) ≡ filter (nat_lt n) (map number (filter test xs))
  some_behind n [] = refl
  some_behind n (x ∷ xs) = go (test x) (some_behind n xs)
    where
      go : (t : Bool) → map number (filter (is_wanted (Some n)) xs) ≡ filter (nat_lt n) (map number (filter test xs))
          → map number (cond (t && nat_lt n (number x)) (x ∷ filter (is_wanted (Some n)) xs) (filter (is_wanted (Some n)) xs))
          ≡ filter (nat_lt n) (map number (cond t (x ∷ filter test xs) (filter test xs)))
      go true rest = by (nat_lt n (number x))
        where
          by : (b : Bool) → map number (cond b (x ∷ filter (is_wanted (Some n)) xs) (filter (is_wanted (Some n)) xs))
              ≡ cond b (number x ∷ filter (nat_lt n) (map number (filter test xs))) (filter (nat_lt n) (map number (filter test xs)))
          by true = ap (λ l. number x ∷ l) rest
          by false = rest
      go false rest = rest

  pub those_behind : (b : Option ℕ) (xs : List X) → map number (filter (is_wanted b) xs) ≡ numbers_behind b (map number (filter test xs))
  those_behind None xs = ap (map number) (filter_agree (is_wanted None) test (λ x. and_true (test x)) xs)
  those_behind (Some n) xs = some_behind n xs
