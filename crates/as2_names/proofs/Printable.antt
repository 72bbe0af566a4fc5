-- Printable bytes are text, and so is each part of them.
use Rattle.std.proofs.Common.{◌≡◌, ℕ, suc, zero, ◌-◌, ◌<◌, true, List, [], ◌∷◌, length, drop, Result, Ok, Err, refl, arith, inl, inr, Bool}
use Rattle.std.specs.Prelude.{IsAscii, IsUtf8, IsOk, MatchResult}
use Rattle.std.specs.List.{list_all}
use Rattle.std.proofs.lemmas.Bool.{cases_Bool, and_parts}
use Rattle.std.proofs.lemmas.Bool.Decides.{nat_tests}
use Rattle.std.proofs.lemmas.Str.{IsUtf8-from_ascii, IsAscii-take, IsAscii-drop}
use Rattle.as2_names.specs.Ascii.{is_printable}
use Rattle.as2_names.specs.Identifiers.{is_bracketed, without_brackets}

printable_small : (b : ℕ) → is_printable b ≡ true → b < 128
printable_small b h = grind (arith, nat_tests)

pub all_ascii : (test : ℕ → Bool) → ((b : ℕ) → test b ≡ true → b < 128) → (bs : List ℕ) → list_all test bs ≡ true → IsAscii bs
all_ascii test small [] h i = omega arith
all_ascii test small (b ∷ rest) h zero = small b (and_parts (test b) (list_all test rest) h).0
all_ascii test small (b ∷ rest) h (suc i) = all_ascii test small rest (and_parts (test b) (list_all test rest) h).1 i

printable_ascii : (bs : List ℕ) → list_all is_printable bs ≡ true → IsAscii bs
printable_ascii = all_ascii is_printable printable_small

pub printable_text : (bs : List ℕ) → list_all is_printable bs ≡ true → IsUtf8 bs
printable_text bs h = IsUtf8-from_ascii bs (printable_ascii bs h)

-- the value of a printable text is text
pub value_text : (text : List ℕ) → list_all is_printable text ≡ true → IsUtf8 (without_brackets text)
unfolding without_brackets
value_text text h =
    elim (cases_Bool (is_bracketed text)) [
      | inl bracketed ↦ rw bracketed (IsUtf8-from_ascii _ (IsAscii-take (drop 1 text) (length text - 1 - 1) (IsAscii-drop text 1 (printable_ascii text h))))
      | inr bare ↦ rw bare (printable_text text h)
    ]

-- bytes that are text are read as text
pub read_ok : {T E : Type 0} (bs : List ℕ) (r : Result T E) (P : T → Type 0) (Q : E → Type 0) → IsUtf8 bs
    → MatchResult r P (λ e. ¬ (IsUtf8 bs) × Q e) → IsOk r
read_ok bs (Ok x) P Q h m = refl
read_ok bs (Err e) P Q h m = absurd (m.0 h)
