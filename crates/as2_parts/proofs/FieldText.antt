-- The field that a line is.
use Rattle.std.proofs.Common.{◌≡◌, ◌==◌, ℕ, ◌+◌, ◌-◌, true, false, List, [], ◌∷◌, ◌++◌, length, take, drop, get_or, Option, Some, None, refl, sym, ap, subst, ◌∙◌, arith, inl, inr}
use Rattle.std.proofs.lemmas.Bool.{cases_Bool, eqb-true, and_parts, and_from, or_cases, lt-ltb, not-true}
use Rattle.std.proofs.lemmas.List.{take_rest, take_at, drop_at, drop-drop, drop_more, take-append-drop}
use Rattle.std.proofs.lemmas.List.Quantifiers.{position-Some}
use Rattle.std.proofs.lemmas.Iterator.Adapters.{position_from-zero}
use Rattle.std.specs.Prelude.{◌≢◌, ◌&&◌, not, nat_lt, nat_le, position}
use Rattle.std.specs.List.{list_all, position_from}
use Rattle.as2_names.specs.Blanks.{is_blank}
use Rattle.as2_names.specs.Trim.{trimmed_text}
use Rattle.as2_parts.specs.Fields.{FieldText, IsField, is_colon, is_field_name_byte, is_field_name, field_with, field_cut, folded_field, begins_with_blank}

pub field_found : (line name behind value : List ℕ) (n : ℕ) → position is_colon line ≡ Some n → name ≡ take n line → behind ≡ drop n line
    → is_field_name name ≡ true → value ≡ trimmed_text (take (length behind - 1) (drop 1 behind)) → Some (name, value) ≡ folded_field line
field_found line name behind value n place front back may e =
    let v : value ≡ trimmed_text (drop (n + 1) line) = e ∙ ap trimmed_text (take_rest behind 1 ∙ ap (drop 1) back ∙ drop-drop 1 n line) in
    let m : is_field_name (take n line) ≡ true = rw (← front) may in
    rw (place, m, ← front, ← v) refl

-- ---- a field that is given stands in the line

colon_at : (line : List ℕ) (n : ℕ) → position is_colon line ≡ Some n → line ≡ take n line ++ 58 ∷ drop (n + 1) line
colon_at line n place =
    let p = position-Some is_colon line n 0 place in
    let at : get_or line n 0 ≡ 58 = eqb-true (get_or line n 0) 58 p.1 in
    sym (take-append-drop n line) ∙ ap (λ (t : List ℕ). take n line ++ t) (drop_more line n 0 p.0 ∙ ap (λ (b : ℕ). b ∷ drop (n + 1) line) at)

with_some : (name raw : List ℕ) (field : FieldText) → field_with name raw ≡ Some field → (is_field_name name ≡ true) × (field ≡ (name, trimmed_text raw))
with_some name raw field e =
    elim (cases_Bool (is_field_name name)) [
      | inl may ↦ let same : Some (name, trimmed_text raw) ≡ Some field = rw may at e in (may, sym (cc same))
      | inr but ↦ let none : None ≡ Some field = rw but at e in absurd cc
    ]

length_some : (name : List ℕ) → nat_lt 0 (length name) ≡ true → name ≢ []
length_some [] h e = absurd cc
length_some (b ∷ rest) h e = absurd cc

take_cut : (line : List ℕ) (field : FieldText) (place : Option ℕ) → position is_colon line ≡ place → field_cut place line ≡ Some field → IsField line field
take_cut line field None place e = absurd cc
take_cut line field (Some n) place e =
    let w = with_some (take n line) (drop (n + 1) line) field e in
    let parts = and_parts (nat_lt 0 (length (take n line))) (list_all is_field_name_byte (take n line)) w.0 in
    let name : field.0 ≡ take n line = ap (λ (f : FieldText). f.0) w.1 in
    record {
      raw = drop (n + 1) line;
      whole = colon_at line n place ∙ ap (λ (t : List ℕ). t ++ 58 ∷ drop (n + 1) line) (sym name);
      some = subst (λ (t : List ℕ). t ≢ []) (sym name) (length_some (take n line) parts.0);
      named = ap (list_all is_field_name_byte) name ∙ parts.1;
      value = ap (λ (f : FieldText). f.1) w.1;
    }

pub field_take : (line : List ℕ) (field : FieldText) → folded_field line ≡ Some field → IsField line field
field_take line field e = take_cut line field (position is_colon line) refl e

-- ---- a field that stands in the line is given

name_no_colon : (b : ℕ) → is_field_name_byte b ≡ true → is_colon b ≡ false
name_no_colon b h = not-true (is_colon b) (and_parts (nat_lt 32 b && nat_le b 126) (not (is_colon b)) h).1

first_colon : (i : ℕ) (name raw : List ℕ) → list_all is_field_name_byte name ≡ true → position_from is_colon i (name ++ 58 ∷ raw) ≡ Some (i + length name)
first_colon i [] raw h = ap (λ (n : ℕ). Some n) (omega arith)
first_colon i (b ∷ name) raw h =
    let p = and_parts (is_field_name_byte b) (list_all is_field_name_byte name) h in
    rw (name_no_colon b p.0) (first_colon (i + 1) name raw p.1 ∙ ap (λ (n : ℕ). Some n) (omega arith))

some_length : (name : List ℕ) → name ≢ [] → nat_lt 0 (length name) ≡ true
some_length [] h = absurd (h refl)
some_length (b ∷ rest) h = lt-ltb 0 (length (b ∷ rest)) (omega arith)

behind_colon : (name raw : List ℕ) → drop (length name + 1) (name ++ 58 ∷ raw) ≡ raw
behind_colon name raw = sym (drop-drop 1 (length name) (name ++ 58 ∷ raw)) ∙ ap (drop 1) (drop_at name (58 ∷ raw) (length name) refl)

pub field_again : (line : List ℕ) (field : FieldText) → IsField line field → folded_field line ≡ Some field
field_again line field f =
    let place : position is_colon line ≡ Some (length field.0) = ap (position is_colon) f.whole
    ∙ position_from-zero is_colon (field.0 ++ 58 ∷ f.raw) ∙ first_colon 0 field.0 f.raw f.named ∙ ap (λ (n : ℕ). Some n) (omega arith) in
    let name : take (length field.0) line ≡ field.0 = ap (take (length field.0)) f.whole ∙ take_at field.0 (58 ∷ f.raw) (length field.0) refl in
    let raw : drop (length field.0 + 1) line ≡ f.raw = ap (drop (length field.0 + 1)) f.whole ∙ behind_colon field.0 f.raw in
    let may : is_field_name field.0 ≡ true = and_from (nat_lt 0 (length field.0)) (list_all is_field_name_byte field.0) (some_length field.0 f.some) f.named in
    ap (λ (o : Option ℕ). field_cut o line) place ∙ rw (name, raw, may, ← f.value) refl

pub no_field : (line : List ℕ) → ((field : FieldText) → ¬ IsField line field) → folded_field line ≡ None
no_field line none = without (folded_field line) refl
  where
    without : (o : Option FieldText) → folded_field line ≡ o → o ≡ None
    without None e = refl
    without (Some field) e = absurd (none field (field_take line field e))

-- ---- a line that goes on with the one before is no field

blank_no_name : (b : ℕ) → is_blank b ≡ true → is_field_name_byte b ≡ false
blank_no_name b h =
    elim (or_cases (b == 32) (b == 9) h) [
      | inl space ↦ rw (eqb-true b 32 space) refl
      | inr tab ↦ rw (eqb-true b 9 tab) refl
    ]

no_name_first : (b : ℕ) (rest name raw : List ℕ) → is_blank b ≡ true → b ∷ rest ≡ name ++ 58 ∷ raw → name ≢ [] → list_all is_field_name_byte name ≡ true → ⊥
no_name_first b rest [] raw blank e some h = some refl
no_name_first b rest (x ∷ name) raw blank e some h =
    let same : b ≡ x = cc in
    let p = and_parts (is_field_name_byte x) (list_all is_field_name_byte name) h in
    let q : is_field_name_byte x ≡ false = rw (← same) (blank_no_name b blank) in
    absurd (cc (sym q ∙ p.0))

pub blank_no_field : (line : List ℕ) → begins_with_blank line ≡ true → folded_field line ≡ None
blank_no_field [] blank = refl
blank_no_field (b ∷ rest) blank = no_field (b ∷ rest) (λ field f. no_name_first b rest field.0 f.raw blank f.whole f.some f.named)
