-- Digits are text, and what they are parsed as.
use Rattle.std.proofs.Common.{◌≡◌, ℕ, ◌<◌, ◌^◌, true, List, length, None, Result, Ok, Err, refl, sym, arith, rules, inl, inr, nat_lt}
use Rattle.std.specs.Prelude.{IsUtf8}
use Rattle.std.specs.Char.{is_ascii_digit}
use Rattle.std.specs.List.{list_all}
use Rattle.std.specs.Result.{OkIff}
use Rattle.std.specs.Str.Parse.{digits_value, ParsesUnsigned}
use Rattle.std.proofs.lemmas.Bool.{cases_Bool, and_parts}
use Rattle.std.proofs.lemmas.Bool.Decides.{nat_tests}
use Rattle.std.proofs.lemmas.Str.{IsUtf8-from_ascii}
use Rattle.std.proofs.lemmas.Str.Parse.{IsNumeralModel, numerals_by_value, parse_digits}
use Rattle.as2_names.proofs.Printable.{all_ascii}
use Rattle.as2_names.specs.Numbers.{is_number, decimal_value}

digit_small : (b : ℕ) → is_ascii_digit b ≡ true → b < 128
digit_small b h = grind (arith, nat_tests)

own : IsNumeralModel (λ ds. list_all is_ascii_digit ds ≡ true) (digits_value 10)
own = numerals_by_value _ (search rules)

-- a number's digits
pub digits_of : (bs : List ℕ) → is_number bs ≡ true → list_all is_ascii_digit bs ≡ true
digits_of bs h = (and_parts _ _ h).1

pub number_text : (bs : List ℕ) → is_number bs ≡ true → IsUtf8 bs
number_text bs h = IsUtf8-from_ascii bs (all_ascii is_ascii_digit digit_small bs (digits_of bs h))

pub parsed : {E : Type 0} (bs : List ℕ) (r : Result ℕ E) → ParsesUnsigned 64 10 bs r → is_number bs ≡ true
    → OkIff r ((0 < length bs) × (digits_value 10 bs < 2 ^ 64)) (digits_value 10 bs)
parsed bs r p h = parse_digits own 64 bs r p (digits_of bs h)

-- a number that isn't parsed has no value
pub none_parsed : {E : Type 0} (bs text : List ℕ) (r : Result ℕ E) (e : E) → text ≡ bs → ParsesUnsigned 64 10 text r → r ≡ Err e → is_number bs ≡ true
    → None ≡ decimal_value bs
none_parsed bs text (Ok n) e same p is h = absurd cc
none_parsed bs text (Err f) e same p is h =
    let o : ¬ ((0 < length bs) × (digits_value 10 bs < 2 ^ 64)) = parsed bs (Err f) (rw (sym same) p) h in
    elim (cases_Bool (nat_lt (digits_value 10 bs) (2 ^ 64))) [
      | inl t ↦ absurd (o (grind (arith, nat_tests), grind (arith, nat_tests)))
      | inr f ↦ rw (h, f) refl
    ]
