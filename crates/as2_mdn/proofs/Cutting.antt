-- A text that isn't cut at a byte lacks it.
use Rattle.std.proofs.Common.{◌≡◌, ◌==◌, ℕ, false, cond, List, [], ◌∷◌, Option, Some, None, sym, ap, ◌∙◌, inl, inr}
use Rattle.std.proofs.lemmas.Bool.{cases_Bool}
use Rattle.std.proofs.lemmas.List.Elements.{All-nil}
use Rattle.as2_names.specs.Cuts.{Lacks, with_before, cut_at}
use Rattle.as2_names.proofs.Cuts.{lacks_front}

before_none : (b : ℕ) (found : Option (List ℕ × List ℕ)) → with_before (b ∷ []) found ≡ None → found ≡ None
before_none b (Some q) h = absurd cc
before_none b None h = cc

some_or_none : (p : List ℕ × List ℕ) → Some p ≡ None → ⊥
some_or_none p h = cc

pub found_none : (byte : ℕ) (text : List ℕ) → cut_at byte text ≡ None → Lacks byte text
found_none byte [] h = All-nil (λ b. (b == byte) ≡ false)
found_none byte (b ∷ rest) h =
    elim (cases_Bool (b == byte)) [
      | inl here ↦
          absurd (some_or_none ([], rest) (sym (ap (λ t. cond t (Some ([], rest)) (with_before (b ∷ []) (cut_at byte rest))) here) ∙ h))
      | inr other ↦
          let later : with_before (b ∷ []) (cut_at byte rest) ≡ None =
          sym (ap (λ t. cond t (Some ([], rest)) (with_before (b ∷ []) (cut_at byte rest))) other) ∙ h in
          lacks_front byte b rest other (found_none byte rest (before_none b (cut_at byte rest) later))
    ]
