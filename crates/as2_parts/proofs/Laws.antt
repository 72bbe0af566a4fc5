-- What the definitions say of texts that are put together, for the crates above.
use Rattle.std.proofs.Common.{◌≡◌, ◌==◌, ℕ, true, false, List, [], ◌∷◌, ◌++◌, refl, ap, ◌∙◌}
use Rattle.std.specs.Prelude.{not, filter_map}
use Rattle.std.specs.List.{list_all}
use Rattle.std.proofs.lemmas.Bool.{and_parts, not-true}
use Rattle.as2_parts.specs.Lines.{lines}
use Rattle.as2_parts.specs.Fields.{FieldText, IsField, begins_with_blank, folded_lines, folded_field, fields}
use Rattle.as2_parts.proofs.FieldText.{field_again}

-- ---- a text with a line in front

-- the text has no LF
abbrev pub HasNoFeed : List ℕ → Type 0
HasNoFeed text = list_all (λ b. not (b == 10)) text ≡ true

pub lines_front : (line rest : List ℕ) → HasNoFeed line → lines (line ++ 10 ∷ rest) ≡ (line ++ 10 ∷ []) ∷ lines rest
lines_front [] rest h = refl
lines_front (b ∷ line) rest h =
    let p = and_parts (not (b == 10)) (list_all (λ b. not (b == 10)) line) h in
    rw (not-true (b == 10) p.0, lines_front line rest p.1) refl

pub folded_front : (line rest : List ℕ) → HasNoFeed line → begins_with_blank rest ≡ false
    → folded_lines (line ++ 10 ∷ rest) ≡ (line ++ 10 ∷ []) ∷ folded_lines rest
folded_front [] rest h free = rw free refl
folded_front (b ∷ line) rest h free =
    let p = and_parts (not (b == 10)) (list_all (λ b. not (b == 10)) line) h in
    rw (not-true (b == 10) p.0, folded_front line rest p.1 free) refl

-- a line that is a field gives it before the fields of the rest, where that begins with no blank
pub fields_front : (line rest : List ℕ) (field : FieldText) → HasNoFeed line → begins_with_blank rest ≡ false → IsField (line ++ 10 ∷ []) field
    → fields (line ++ 10 ∷ rest) ≡ field ∷ fields rest
fields_front line rest field h free f =
    ap (filter_map folded_field) (folded_front line rest h free) ∙ rw (field_again (line ++ 10 ∷ []) field f) refl
