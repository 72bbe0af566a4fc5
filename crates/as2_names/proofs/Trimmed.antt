-- What is without blanks at its ends stays so.
use Rattle.std.proofs.Common.{◌≡◌, ℕ, false, List, [], ◌∷◌, ◌++◌, reverse, refl, ap, ◌∙◌, inl, inr}
use Rattle.std.specs.Prelude.{◌⊎◌}
use Rattle.std.proofs.lemmas.Bool.{cases_Bool}
use Rattle.std.proofs.lemmas.List.{reverse-append, reverse-reverse}
use Rattle.as2_names.specs.Blanks.{is_blank, skip_blanks, without_blanks}

-- nothing is left, or it begins with a byte that is no blank
record HasNoFront (text : List ℕ) : Type 0 where
  pub first : ℕ
  pub rest : List ℕ
  pub is : text ≡ first ∷ rest
  pub seen : is_blank first ≡ false

skipped : (text : List ℕ) → (skip_blanks text ≡ []) ⊎ HasNoFront (skip_blanks text)
skipped [] = inl refl
skipped (b ∷ rest) =
    elim (cases_Bool (is_blank b)) [
      | inl blank ↦ rw blank (skipped rest)
      | inr seen ↦ rw seen (inr (record { first = b; rest = rest; is = refl; seen = seen }))
    ]

-- a last byte that is no blank stays, whatever is skipped before it
skip_keeps_last : (text : List ℕ) (b : ℕ) → is_blank b ≡ false → (kept : List ℕ) × (skip_blanks (text ++ b ∷ []) ≡ kept ++ b ∷ [])
skip_keeps_last [] b seen = ([], rw seen refl)
skip_keeps_last (a ∷ rest) b seen =
    elim (cases_Bool (is_blank a)) [
      | inl blank ↦ rw blank (skip_keeps_last rest b seen)
      | inr other ↦ (a ∷ rest, rw other refl)
    ]

skip_again : (text : List ℕ) → HasNoFront text → skip_blanks text ≡ text
skip_again text b = rw (b.is, b.seen) refl

skip_skip : (text : List ℕ) → skip_blanks (skip_blanks text) ≡ skip_blanks text
skip_skip text =
    elim (skipped text) [
      | inl none ↦ rw none refl
      | inr some ↦ skip_again (skip_blanks text) some
    ]

-- after the blanks at the end are taken off, the front is as it was
front_stays : (text : List ℕ) → HasNoFront text → skip_blanks (reverse (skip_blanks (reverse text))) ≡ reverse (skip_blanks (reverse text))
front_stays text b =
    let turned : reverse text ≡ reverse b.rest ++ b.first ∷ [] = ap reverse b.is ∙ reverse-append (b.first ∷ []) b.rest in
    let k = skip_keeps_last (reverse b.rest) b.first b.seen in
    let back : reverse (skip_blanks (reverse text)) ≡ b.first ∷ reverse k.0 = ap (λ (t : List ℕ). reverse (skip_blanks t)) turned ∙ ap reverse k.1
    ∙ reverse-append k.0 (b.first ∷ []) in
    skip_again (reverse (skip_blanks (reverse text))) (record { first = b.first; rest = reverse k.0; is = back; seen = b.seen })

front_bare : (text : List ℕ) → skip_blanks (without_blanks text) ≡ without_blanks text
unfolding without_blanks
front_bare text =
    elim (skipped text) [
      | inl none ↦ rw none refl
      | inr some ↦ front_stays (skip_blanks text) some
    ]

-- blanks are taken off at once
pub without_blanks_again : (text : List ℕ) → without_blanks (without_blanks text) ≡ without_blanks text
unfolding without_blanks
without_blanks_again text =
    let inner = skip_blanks (reverse (skip_blanks text)) in
    let front : skip_blanks (reverse inner) ≡ reverse inner = front_bare text in
    ap (λ (t : List ℕ). reverse (skip_blanks (reverse t))) front
    ∙ ap (λ (t : List ℕ). reverse (skip_blanks t)) (reverse-reverse inner)
    ∙ ap reverse (skip_skip (reverse (skip_blanks text)))
