-- The media type of a report that is written.
use Rattle.std.proofs.Common.{◌≡◌, ◌==◌, ℕ, suc, zero, ◌-◌, ◌<◌, ◌≤◌, ◌^◌, true, false, List, [], ◌∷◌, ◌++◌, length, map, Some, refl, sym, ap, append-nil, arith, inl, inr}
use Rattle.std.specs.Prelude.{nat_le, codes, slice_index}
use Rattle.std.specs.List.{list_all, flat_map}
use Rattle.std.proofs.lemmas.Bool.{and_parts, and_from}
use Rattle.std.proofs.lemmas.Bool.Decides.{nat_tests}
use Rattle.std.proofs.lemmas.Fmt.{length-decimal-le}
use Rattle.as2_media.specs.MediaTypes.{Media, IsMediaType}
use Rattle.as2_media.specs.Parameters.{IsPadded, SpellsParameter}
use Rattle.as2_media.specs.Values.{qtext, print_unit, is_unit}
use Rattle.as2_media.specs.Kinds.{kind_of, boundary_of, is_boundary, is_boundary_byte}
use Rattle.as2_media.specs.declared.kind.Kind.TheVariants as kind
use Rattle.as2_mdn.specs.Reports.{boundary_text, content_type_text}
use Rattle.as2_mdn.proofs.WrittenBytes.{is_plain, decimal_plain}

-- the media type that is spelled
abbrev pub spelled_media : ℕ → Media
spelled_media n = record {
  type_name = codes "multipart";
  subtype = codes "report";
  parameters = (codes "report-type", codes "disposition-notification") ∷ (codes "boundary", boundary_text n) ∷ [];
}

-- ---- the boundary

plain_unit : (b : ℕ) → is_plain b ≡ true → is_unit (qtext b) ≡ true
plain_unit b h = grind (arith, nat_tests)

plain_byte : (b : ℕ) → is_plain b ≡ true → is_boundary_byte b ≡ true
plain_byte b h = grind (arith, nat_tests)

plain_no_space : (b : ℕ) → is_plain b ≡ true → (b == 32) ≡ false
plain_no_space b h = grind (arith, nat_tests)

as_units : (text : List ℕ) → text ≡ flat_map print_unit (map (λ (b : ℕ). qtext b) text)
as_units [] = refl
as_units (b ∷ rest) = ap (λ (x : List ℕ). b ∷ x) (as_units rest)

are_units : (text : List ℕ) → list_all is_plain text ≡ true → list_all is_unit (map (λ (b : ℕ). qtext b) text) ≡ true
are_units [] h = refl
are_units (b ∷ rest) h =
    let q = and_parts (is_plain b) (list_all is_plain rest) h in
    and_from (is_unit (qtext b)) (list_all is_unit (map (λ (b : ℕ). qtext b) rest)) (plain_unit b q.0) (are_units rest q.1)

are_bytes : (text : List ℕ) → list_all is_plain text ≡ true → list_all is_boundary_byte text ≡ true
are_bytes [] h = refl
are_bytes (b ∷ rest) h =
    let q = and_parts (is_plain b) (list_all is_plain rest) h in
    and_from (is_boundary_byte b) (list_all is_boundary_byte rest) (plain_byte b q.0) (are_bytes rest q.1)

plain_at : (text : List ℕ) (i : ℕ) → list_all is_plain text ≡ true → i < length text → is_plain (slice_index text i) ≡ true
plain_at [] i h lt = absurd (omega (arith, lt))
plain_at (b ∷ rest) zero h lt = (and_parts (is_plain b) (list_all is_plain rest) h).0
plain_at (b ∷ rest) (suc i) h lt = plain_at rest i (and_parts (is_plain b) (list_all is_plain rest) h).1 (omega (arith, lt))

plain_boundary : (text : List ℕ) → list_all is_plain text ≡ true → 0 < length text → length text ≤ 70 → is_boundary text ≡ true
plain_boundary text h some short =
    let last : (slice_index text (length text - 1) == 32) ≡ false = plain_no_space _ (plain_at text (length text - 1) h (omega arith)) in
    let none : (length text == 0) ≡ false = grind (arith, nat_tests) in
    let fits : nat_le (length text) 70 ≡ true = grind (arith, nat_tests) in
    rw (none, fits, are_bytes text h, last) refl

boundary_short : (n : ℕ) → n < 2 ^ 64 → length (boundary_text n) ≤ 70
boundary_short n small = omega (arith, length-decimal-le 20 n (omega arith) (omega (arith, small)) small)

pub boundary_is : (n : ℕ) → n < 2 ^ 64 → boundary_of (spelled_media n) ≡ Some (boundary_text n)
boundary_is n small = rw (plain_boundary (boundary_text n) (decimal_plain n small) (omega arith) (boundary_short n small)) refl

pub kind_is : (n : ℕ) → kind_of (spelled_media n) ≡ kind.Report
kind_is n = refl

-- ---- its spelling

unpadded : (text : List ℕ) → IsPadded text text
unpadded text = record { front = []; back = []; whole = sym (append-nil text); blank_front = refl; blank_back = refl }

behind_space : (text : List ℕ) → IsPadded (32 ∷ text) text
behind_space text = record { front = 32 ∷ []; back = []; whole = ap (λ (x : List ℕ). 32 ∷ x) (sym (append-nil text)); blank_front = refl; blank_back = refl }

report_type : SpellsParameter (codes " report-type=disposition-notification") (codes "report-type", codes "disposition-notification")
report_type = record {
  left = codes " report-type";
  right = codes "disposition-notification";
  spelled = codes "disposition-notification";
  whole = refl;
  token = refl;
  named = behind_space (codes "report-type");
  spells = inl (record { some = λ e. absurd cc; trim = refl; bytes = refl }, refl);
  given = unpadded (codes "disposition-notification");
}

boundary_given : (n : ℕ) → n < 2 ^ 64 → SpellsParameter (codes " boundary=\"" ++ boundary_text n ++ codes "\"") (codes "boundary", boundary_text n)
boundary_given n small = record {
  left = codes " boundary";
  right = codes "\"" ++ boundary_text n ++ codes "\"";
  spelled = codes "\"" ++ boundary_text n ++ codes "\"";
  whole = refl;
  token = refl;
  named = behind_space (codes "boundary");
  spells = inr (
    record {
      units = map (λ (b : ℕ). qtext b) (boundary_text n);
      whole = as_units (boundary_text n);
      each = are_units (boundary_text n) (decimal_plain n small);
    },
    refl,
  );
  given = unpadded (codes "\"" ++ boundary_text n ++ codes "\"");
}

pub typed_as : (n : ℕ) → n < 2 ^ 64 → IsMediaType (content_type_text n) (spelled_media n)
typed_as n small = record {
  essence = codes "multipart/report";
  texts = codes " report-type=disposition-notification" ∷ (codes " boundary=\"" ++ boundary_text n ++ codes "\"") ∷ [];
  whole = ap (λ (x : List ℕ). codes "multipart/report; report-type=disposition-notification;" ++ x)
      (sym (append-nil (codes " boundary=\"" ++ boundary_text n ++ codes "\"")));
  is = unpadded (codes "multipart/report");
  type_token = refl;
  subtype_token = refl;
  spell = inr (_, _, refl, report_type, inr (_, _, refl, boundary_given n small, refl));
  few = omega arith;
}
