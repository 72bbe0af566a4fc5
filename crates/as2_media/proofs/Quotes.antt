-- Values between quotes.
use Rattle.std.proofs.Common.{◌≡◌, ℕ, ◌+◌, ◌-◌, ◌≤◌, Bool, true, false, eq-eqb, List, [], ◌∷◌, ◌++◌, length, drop, get_or, Some, None, refl, ap, ◌∙◌, arith, inl, inr}
use Rattle.std.specs.Prelude.{◌&&◌, ◌==◌, nat_le, not, slice_range}
use Rattle.std.specs.List.{flat_map, list_all}
use Rattle.std.proofs.lemmas.Bool.{cases_Bool, and_parts, and_from, eqb-true, not-true}
use Rattle.std.proofs.lemmas.Bool.Decides.{nat_tests}
use Rattle.std.proofs.lemmas.List.{length_push, take_at, get_or_push, drop_more, length-drop, nil_from_length}
use Rattle.std.proofs.lemmas.List.Folds.{drop_split}
use Rattle.as2_names.specs.Ascii.{quote, backslash}
use Rattle.as2_media.specs.Bytes.{is_line_byte}
use Rattle.as2_media.specs.Values.{QuotedUnit, qtext, pair, print_unit, is_unit, IsQuoted, is_quoted_text, in_quotes, is_enclosed, between_quotes}

-- what stands between the quotes of a quoted value is the value
pub between_quoted : (value : List ℕ) → between_quotes (in_quotes value) ≡ Some value
unfolding between_quotes
between_quoted value =
    let text = in_quotes value in
    let long : length text ≡ length value + 2 = omega (arith, length_push (quote ∷ value) quote) in
    let last : get_or text (length text - 1) 0 ≡ quote = get_or_push (quote ∷ value) quote 0 (length text - 1) (omega arith) in
    let two : nat_le 2 (length text) ≡ true = grind (arith, nat_tests) in
    let closing : (get_or text (length text - 1) 0 == quote) ≡ true = eq-eqb _ _ last in
    let enclosed : is_enclosed text ≡ true = and_from _ _ (and_from (nat_le 2 (length text)) true two refl) closing in
    rw enclosed (ap (λ (x : List ℕ). Some x) (take_at value (quote ∷ []) (length text - 1 - 1) (omega arith)))

-- a text that begins with another byte has no quotes
first_other : (a b c : Bool) → b ≡ false → (a && b && c) ≡ false
first_other true b c h = rw h refl
first_other false b c h = refl

pub between_none : (b : ℕ) (rest : List ℕ) → (b == quote) ≡ false → between_quotes (b ∷ rest) ≡ None
unfolding between_quotes
between_none b rest h = rw (first_other (nat_le 2 (length (b ∷ rest))) (b == quote) (get_or (b ∷ rest) (length (b ∷ rest) - 1) 0 == quote) h) refl

-- a text in quotes is a quote, what stands between, and a quote
last_byte : (text : List ℕ) (c : ℕ) → 2 ≤ length text → get_or text (length text - 1) 0 ≡ c → drop 1 text ≡ slice_range text 1 (length text - 1) ++ c ∷ []
last_byte text c two last =
    let n = length text in
    let end : drop (n - 1 + 1) text ≡ [] = nil_from_length _ (omega (arith, length-drop (n - 1 + 1) text, two)) in
    drop_split text 1 (n - 1) (omega (arith, two))
    ∙ ap (λ (x : List ℕ). slice_range text 1 (n - 1) ++ x) (drop_more text (n - 1) 0 (omega (arith, two)) ∙ rw (last, end) refl)

quotes_again : (b : ℕ) (rest value : List ℕ) → is_enclosed (b ∷ rest) ≡ true → slice_range (b ∷ rest) 1 (length (b ∷ rest) - 1) ≡ value
    → b ∷ rest ≡ in_quotes value
quotes_again b rest value h e =
    let p = and_parts (nat_le 2 (length (b ∷ rest)) && b == quote) (get_or (b ∷ rest) (length (b ∷ rest) - 1) 0 == quote) h in
    let q = and_parts (nat_le 2 (length (b ∷ rest))) (b == quote) p.0 in
    let first : b ≡ quote = eqb-true b quote q.1 in
    let last : get_or (b ∷ rest) (length (b ∷ rest) - 1) 0 ≡ quote = eqb-true _ quote p.1 in
    let long = q.0 in
    let two : 2 ≤ length (b ∷ rest) = grind (arith, nat_tests, long) in
    ap (λ (x : List ℕ). b ∷ x) (last_byte (b ∷ rest) quote two last ∙ ap (λ (x : List ℕ). x ++ quote ∷ []) e)
    ∙ ap (λ (x : ℕ). x ∷ value ++ quote ∷ []) first

pub quotes_whole : (text value : List ℕ) → between_quotes text ≡ Some value → text ≡ in_quotes value
unfolding between_quotes
quotes_whole [] value h = absurd cc
quotes_whole (b ∷ rest) value h =
    elim (cases_Bool (is_enclosed (b ∷ rest))) [
      | inl enclosed ↦
          let e : Some (slice_range (b ∷ rest) 1 (length (b ∷ rest) - 1)) ≡ Some value = rw enclosed at h in
          quotes_again b rest value enclosed cc
      | inr bare ↦ absurd (let e : None ≡ Some value = rw bare at h in cc)
    ]

-- ---- the units

pub units_again : (units : List QuotedUnit) → list_all is_unit units ≡ true → is_quoted_text false (flat_map print_unit units) ≡ true
units_again [] h = refl
units_again (qtext b ∷ rest) h =
    let p = and_parts (is_unit (qtext b)) (list_all is_unit rest) h in
    let q = and_parts (not (is_line_byte b)) (not (b == quote) && not (b == backslash)) p.0 in
    let r = and_parts (not (b == quote)) (not (b == backslash)) q.1 in
    rw (q.0, r.0, not-true (b == backslash) r.1) (units_again rest p.1)
units_again (pair b ∷ rest) h =
    let p = and_parts (is_unit (pair b)) (list_all is_unit rest) h in
    and_from (not (is_line_byte b)) (is_quoted_text false (flat_map print_unit rest)) p.0 (units_again rest p.1)

-- the units of a text, and of one behind a backslash
abbrev Units : Bool → List ℕ → Type 0
Units false text = IsQuoted text
Units true text = IsQuoted (backslash ∷ text)

units_found : (escaped : Bool) (text : List ℕ) → is_quoted_text escaped text ≡ true → Units escaped text
units_found true [] h = absurd cc
units_found false [] h = record { units = []; whole = refl; each = refl }
units_found true (b ∷ rest) h =
    let p = and_parts (not (is_line_byte b)) (is_quoted_text false rest) h in
    let r : IsQuoted rest = units_found false rest p.1 in
    record {
      units = pair b ∷ r.units;
      whole = ap (λ (x : List ℕ). backslash ∷ b ∷ x) r.whole;
      each = and_from (not (is_line_byte b)) (list_all is_unit r.units) p.0 r.each;
    }
units_found false (b ∷ rest) h =
    let p = and_parts (not (is_line_byte b)) (not (b == quote) && is_quoted_text (b == backslash) rest) h in
    let q = and_parts (not (b == quote)) (is_quoted_text (b == backslash) rest) p.1 in
    elim (cases_Bool (b == backslash)) [
      | inl back ↦
          let behind : is_quoted_text true rest ≡ true = rw back at q.1 in
          let r : IsQuoted (backslash ∷ rest) = units_found true rest behind in
          rw (eqb-true b backslash back) r
      | inr other ↦
          let behind : is_quoted_text false rest ≡ true = rw other at q.1 in
          let r : IsQuoted rest = units_found false rest behind in
          let stands : is_unit (qtext b) ≡ true = rw (p.0, q.0, other) refl in
          record {
            units = qtext b ∷ r.units;
            whole = ap (λ (x : List ℕ). b ∷ x) r.whole;
            each = and_from (is_unit (qtext b)) (list_all is_unit r.units) stands r.each;
          }
    ]

pub quoted_found : (value : List ℕ) → is_quoted_text false value ≡ true → IsQuoted value
quoted_found value h = units_found false value h

pub quoted_again : (value : List ℕ) → IsQuoted value → is_quoted_text false value ≡ true
quoted_again value v = rw v.whole (units_again v.units v.each)
