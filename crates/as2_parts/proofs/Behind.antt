-- What stands behind a front.
use Rattle.std.proofs.Common.{◌≡◌, ◌==◌, ℕ, true, false, cond, List, [], ◌∷◌, length, take, drop, Option, Some, None, refl, sym, ap, ◌∙◌, inl, inr}
use Rattle.std.proofs.lemmas.Bool.{cases_Bool}
use Rattle.std.specs.Prelude.{◌+◌, bytes_eq, option_map, MatchOption}
use Rattle.std.specs.Borrow.{Bor}
use Rattle.as2_parts.specs.Lines.{behind}

behind_is : (front text : List ℕ) → behind front text ≡ cond (bytes_eq (take (length front) text) front) (Some (drop (length front) text)) None
behind_is [] text = refl
behind_is (f ∷ front) [] = refl
behind_is (f ∷ front) (b ∷ text) =
    elim (cases_Bool (b == f)) [
      | inl same ↦ rw same (behind_is front text)
      | inr other ↦ rw other refl
    ]

-- what `strip_prefix` says
pub behind_stripped : (front text : List ℕ) (r : Option (Bor (List ℕ)))
    → MatchOption r (bytes_eq (take (length front) text) front ≡ false) (λ x. (bytes_eq (take (length front) text) front ≡ true)
    × (x.now ≡ drop (length front) text) × (length x.now + length front ≡ length text)) → option_map (λ rest. rest.now) r ≡ behind front text
behind_stripped front text None other = sym (behind_is front text ∙ rw other refl)
behind_stripped front text (Some x) (so, e, long) = sym (behind_is front text ∙ rw so (ap (λ (t : List ℕ). Some t) (sym e)))

-- behind one front and then another
abbrev behind_in : List ℕ → Option (List ℕ) → Option (List ℕ)
behind_in front (Some text) = behind front text
behind_in front None = None

behind_both : (a b : ℕ) (front text : List ℕ) → behind (a ∷ b ∷ front) text ≡ behind_in front (behind (a ∷ b ∷ []) text)
behind_both a b front [] = refl
behind_both a b front (x ∷ []) =
    elim (cases_Bool (x == a)) [
      | inl same ↦ rw same refl
      | inr other ↦ rw other refl
    ]
behind_both a b front (x ∷ y ∷ text) =
    elim (cases_Bool (x == a)) [
      | inl same ↦ rw same (elim (cases_Bool (y == b)) [
        | inl too ↦ rw too refl
        | inr but ↦ rw but refl
      ])
      | inr other ↦ rw other refl
    ]

pub both_some : (front text rest : List ℕ) (r : Option (List ℕ)) → Some rest ≡ behind (45 ∷ 45 ∷ []) text → r ≡ behind front rest
    → r ≡ behind (45 ∷ 45 ∷ front) text
both_some front text rest r first second = second ∙ ap (behind_in front) first ∙ sym (behind_both 45 45 front text)

pub both_none : (front text : List ℕ) → None ≡ behind (45 ∷ 45 ∷ []) text → None ≡ behind (45 ∷ 45 ∷ front) text
both_none front text first = ap (behind_in front) first ∙ sym (behind_both 45 45 front text)
