-- The identifier that a document gets is one, whatever its number.
-- The plan: it stands in brackets, which are no blanks (`bare`); all of it is printable (`all_printable`), since digits and the bytes of a
-- domain are; and with 20 digits and a domain of 253 bytes its value is shorter than 998 (`own_identifier`).
use Rattle.std.proofs.Common.{◌≡◌, ◌∙◌, ℕ, ◌+◌, ◌-◌, ◌<◌, ◌≤◌, ◌^◌, Bool, true, List, [], ◌∷◌, ◌++◌, length, drop, reverse, refl, sym, ap, arith, inl, inr}
use Rattle.std.specs.Prelude.{codes, decimal}
use Rattle.std.specs.List.{list_all}
use Rattle.std.specs.Str.{all_ascii_digits}
use Rattle.std.proofs.lemmas.Bool.{and_parts, cases_Bool}
use Rattle.std.proofs.lemmas.Bool.Decides.{nat_tests}
use Rattle.std.proofs.lemmas.Fmt.{digits_decimal, length-decimal-le}
use Rattle.std.proofs.lemmas.List.{reverse-append, reverse-reverse, length-append, length-take, length-drop}
use Rattle.std.proofs.lemmas.List.Folds.{list_all-append}
use Rattle.std.proofs.lemmas.Str.Parse.{numerals_by_value, tells_all_ascii_digits}
use Rattle.as2_names.specs.Ascii.{is_printable}
use Rattle.as2_names.specs.Blanks.{skip_blanks, without_blanks}
use Rattle.as2_names.specs.Domains.{IsDomain, is_domain_byte}
use Rattle.as2_names.specs.Identifiers.{IsIdentifier, is_bracketed, without_brackets}
use Rattle.as2_exchange.specs.Agreement.{Agreements}
use Rattle.as2_exchange.specs.Jobs.{identifier_in_brackets, identifier_value}

-- what stands in brackets has no blank at its ends
bare : (value : List ℕ) → without_blanks (identifier_in_brackets value) ≡ identifier_in_brackets value
unfolding without_blanks
bare value =
    ap (λ l. reverse (skip_blanks l)) (reverse-append (codes "<" ++ value) (codes ">"))
    ∙ ap reverse (sym (reverse-append (codes "<" ++ value) (codes ">")))
    ∙ reverse-reverse (identifier_in_brackets value)

-- what passes a test passes a wider one
wider : (test wide : ℕ → Bool) → ((b : ℕ) → test b ≡ true → wide b ≡ true) → (bs : List ℕ) → list_all test bs ≡ true → list_all wide bs ≡ true
wider test wide more [] h = refl
wider test wide more (b ∷ rest) h =
    let parts = and_parts (test b) (list_all test rest) h in
    rw (more b parts.0, wider test wide more rest parts.1) refl

both : (xs ys : List ℕ) → list_all is_printable xs ≡ true → list_all is_printable ys ≡ true → list_all is_printable (xs ++ ys) ≡ true
both xs ys h g = list_all-append is_printable xs ys ∙ rw (h, g) refl

digits_printable : (n : ℕ) → n < 2 ^ 64 → list_all is_printable (decimal n) ≡ true
digits_printable n small =
    wider _ is_printable (λ b h. grind (arith, nat_tests)) (decimal n)
    (digits_decimal (numerals_by_value (λ ds. all_ascii_digits ds ≡ true) tells_all_ascii_digits) n small)

domain_printable : (domain : List ℕ) → IsDomain domain → list_all is_printable domain ≡ true
domain_printable domain is = wider is_domain_byte is_printable (λ b h. grind (arith, nat_tests)) domain is.made

all_printable : (A : Agreements) (n : ℕ) → IsDomain A.domain → n < 2 ^ 64 → list_all is_printable (identifier_in_brackets (identifier_value A n)) ≡ true
all_printable A n is small =
    both (codes "<" ++ identifier_value A n) (codes ">")
    (both (codes "<") (identifier_value A n) refl
    (both (codes "out-" ++ decimal n ++ codes "@") A.domain
    (both (codes "out-" ++ decimal n) (codes "@") (both (codes "out-") (decimal n) refl (digits_printable n small)) refl)
    (domain_printable A.domain is)))
    refl

-- a text of 3 to 998 bytes has a value of as many at most, and of one at least
value_length : (text : List ℕ) → 3 ≤ length text → length text ≤ 998 → (0 < length (without_brackets text)) × (length (without_brackets text) ≤ 998)
unfolding without_brackets
value_length text some short =
    elim (cases_Bool (is_bracketed text)) [
      | inl bracketed ↦ rw bracketed (
          let inside = length-take (length text - 1 - 1) (drop 1 text) in
          (omega (arith, inside, length-drop 1 text), omega (arith, inside, length-drop 1 text)))
      | inr bare ↦ rw bare (omega arith, omega arith)
    ]

long : (A : Agreements) (n : ℕ) → IsDomain A.domain → n < 2 ^ 64
    → (3 ≤ length (identifier_in_brackets (identifier_value A n))) × (length (identifier_in_brackets (identifier_value A n)) ≤ 998)
long A n is small =
    let digits : length (decimal n) ≤ 20 = length-decimal-le 20 n (omega arith) (omega arith) small in
    let four : length (codes "out-") ≡ 4 = refl in
    let at : length (codes "@") ≡ 1 = refl in
    let end : length (codes ">") ≡ 1 = refl in
    let whole : length (identifier_in_brackets (identifier_value A n)) ≡ 7 + length (decimal n) + length A.domain =
    simp (length-append) (omega (arith, four, at, end)) in
    (omega (arith, whole), omega (arith, whole, digits, is.short))

pub own_identifier : (A : Agreements) (n : ℕ) → IsDomain A.domain → n < 2 ^ 64 → IsIdentifier (identifier_in_brackets (identifier_value A n))
own_identifier A n is small =
    let lengths = long A n is small in
    let value = value_length (identifier_in_brackets (identifier_value A n)) lengths.0 lengths.1 in
    record { bare = bare (identifier_value A n); printable = all_printable A n is small; some = value.0; short = value.1 }
