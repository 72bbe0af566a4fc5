-- The tests of delimiters and closing lines tell what they are.
use Rattle.std.proofs.Common.{◌≡◌, ◌==◌, ℕ, true, false, List, [], ◌∷◌, ◌++◌, Option, Some, None, refl, ap, ◌∙◌, inl, inr}
use Rattle.std.specs.List.{list_all}
use Rattle.std.proofs.lemmas.Bool.{cases_Bool, eqb-true, eq-eqb, or_cases, or_left, or_right, and_parts, both_ways, false_from_ne_true}
use Rattle.as2_names.specs.Blanks.{is_blank}
use Rattle.as2_parts.specs.Lines.{without_line_end, behind, behind_boundary, is_blanks, is_hyphens, is_delimiter, is_closing, is_mark, IsBlanks, IsDelimiter, IsClosing}
use Rattle.as2_parts.specs.Parts.{IsMark}

-- ---- fronts

whole_behind : (front text rest : List ℕ) → behind front text ≡ Some rest → text ≡ front ++ rest
whole_behind [] text rest e = cc
whole_behind (f ∷ front) [] rest e = absurd cc
whole_behind (f ∷ front) (b ∷ text) rest e =
    elim (cases_Bool (b == f)) [
      | inl same ↦
          let more : behind front text ≡ Some rest = rw same at e in
          let tail : text ≡ front ++ rest = whole_behind front text rest more in
          let first : b ≡ f = eqb-true b f same in
          cc
      | inr other ↦ let none : None ≡ Some rest = rw other at e in absurd cc
    ]

behind_whole : (front rest : List ℕ) → behind front (front ++ rest) ≡ Some rest
behind_whole [] rest = refl
behind_whole (f ∷ front) rest = rw (eq-eqb f f refl) (behind_whole front rest)

-- ---- delimiters

blanks_of : (o : Option (List ℕ)) → is_blanks o ≡ true → (text : List ℕ) × (o ≡ Some text) × IsBlanks text
blanks_of (Some text) h = (text, refl, h)
blanks_of None h = absurd cc

pub delimiter_is : (boundary line : List ℕ) → is_delimiter boundary line ≡ true → IsDelimiter boundary line
delimiter_is boundary line h =
    let b = blanks_of (behind_boundary boundary line) h in
    (b.0, b.2, whole_behind (45 ∷ 45 ∷ boundary) (without_line_end line) b.0 b.1)

pub is_delimiter_of : (boundary line : List ℕ) → IsDelimiter boundary line → is_delimiter boundary line ≡ true
is_delimiter_of boundary line d =
    let e : behind_boundary boundary line ≡ Some d.0 = ap (behind (45 ∷ 45 ∷ boundary)) d.2 ∙ behind_whole (45 ∷ 45 ∷ boundary) d.0 in
    rw e d.1

-- ---- closing lines

hyphens_of : (o : Option (List ℕ)) → is_hyphens o ≡ true → (text : List ℕ) × (o ≡ Some (45 ∷ 45 ∷ text)) × IsBlanks text
hyphens_of (Some text) h =
    let b = blanks_of (behind (45 ∷ 45 ∷ []) text) h in
    (b.0, ap (λ (t : List ℕ). Some t) (whole_behind (45 ∷ 45 ∷ []) text b.0 b.1), b.2)
hyphens_of None h = absurd cc

pub closing_is : (boundary line : List ℕ) → is_closing boundary line ≡ true → IsClosing boundary line
closing_is boundary line h =
    let b = hyphens_of (behind_boundary boundary line) h in
    (b.0, b.2, whole_behind (45 ∷ 45 ∷ boundary) (without_line_end line) (45 ∷ 45 ∷ b.0) b.1)

pub is_closing_of : (boundary line : List ℕ) → IsClosing boundary line → is_closing boundary line ≡ true
is_closing_of boundary line d =
    let e : behind_boundary boundary line ≡ Some (45 ∷ 45 ∷ d.0) = ap (behind (45 ∷ 45 ∷ boundary)) d.2 ∙ behind_whole (45 ∷ 45 ∷ boundary) (45 ∷ 45 ∷ d.0) in
    rw e d.1

-- ---- both

pub mark_is : (boundary line : List ℕ) → is_mark boundary line ≡ true → IsMark boundary line
mark_is boundary line h =
    elim (or_cases (is_delimiter boundary line) (is_closing boundary line) h) [
      | inl d ↦ inl (delimiter_is boundary line d)
      | inr c ↦ inr (closing_is boundary line c)
    ]

pub is_mark_of : (boundary line : List ℕ) → IsMark boundary line → is_mark boundary line ≡ true
is_mark_of boundary line (inl d) = or_left (is_delimiter boundary line) (is_closing boundary line) (is_delimiter_of boundary line d)
is_mark_of boundary line (inr c) = or_right (is_delimiter boundary line) (is_closing boundary line) (is_closing_of boundary line c)

pub plain_of : (boundary line : List ℕ) → ¬ IsMark boundary line → is_mark boundary line ≡ false
plain_of boundary line none = false_from_ne_true (is_mark boundary line) (λ h. none (mark_is boundary line h))

pub plain_is : (boundary line : List ℕ) → is_mark boundary line ≡ false → ¬ IsMark boundary line
plain_is boundary line plain m = both_ways (is_mark boundary line) plain (is_mark_of boundary line m)

blank_no_hyphen : (b : ℕ) → is_blank b ≡ true → (b == 45) ≡ false
blank_no_hyphen b h =
    elim (or_cases (b == 32) (b == 9) h) [
      | inl space ↦ rw (eqb-true b 32 space) refl
      | inr tab ↦ rw (eqb-true b 9 tab) refl
    ]

blanks_no_hyphens : (text : List ℕ) → IsBlanks text → is_hyphens (Some text) ≡ false
blanks_no_hyphens [] h = refl
blanks_no_hyphens (b ∷ rest) h = rw (blank_no_hyphen b (and_parts (is_blank b) (list_all is_blank rest) h).0) refl

-- a delimiter is no closing line
pub delimiter_opens : (boundary line : List ℕ) → is_delimiter boundary line ≡ true → is_closing boundary line ≡ false
delimiter_opens boundary line h =
    let b = blanks_of (behind_boundary boundary line) h in
    rw b.1 (blanks_no_hyphens b.0 b.2)
