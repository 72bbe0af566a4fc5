-- A text with zeros behind it, in 44 bytes.
use Rattle.std.proofs.Common.{◌≡◌, ℕ, ◌-◌, ◌≤◌, List, ◌++◌, length, take, drop, replicate, arith, refl, ap, ◌∙◌}
use Rattle.std.proofs.lemmas.List.{drop-replicate, length-replicate, length-append, length-drop, take-append-le, take_all}

-- the bytes are a text of n bytes and zeros
pub record Padded (bytes text : List ℕ) (n : ℕ) : Type 0 where
  pub front : take n bytes ≡ text
  pub zeros : bytes ≡ take n bytes ++ replicate (44 - n) 0

pub padded : (bytes text : List ℕ) (n : ℕ) → length bytes ≡ 44 → n ≤ 44 → bytes ≡ text ++ drop n (replicate 44 0) → Padded bytes text n
padded bytes text n whole le e =
    let len : length text ≡ n =
    omega (arith, whole, ap length e, length-append text (drop n (replicate 44 0)), length-drop {A = ℕ} n (replicate 44 0), length-replicate {A = ℕ} 44 0) in
    let same : bytes ≡ text ++ replicate (44 - n) 0 = e ∙ ap (λ (x : List ℕ). text ++ x) (drop-replicate n 44 0) in
    let front : take n bytes ≡ text = rw (same, take-append-le n text (replicate (44 - n) 0) (omega (arith, len)), take_all n text (omega (arith, len))) refl in
    record { front = front; zeros = rw front same }

pub padded_whole : (text : List ℕ) (n : ℕ) → length text ≡ n → n ≤ 44 → length (text ++ drop n (replicate 44 0)) ≡ 44
padded_whole text n len le =
    omega (arith, len, length-append text (drop n (replicate 44 0)), length-drop {A = ℕ} n (replicate 44 0), length-replicate {A = ℕ} 44 0)
