-- A text that is cut in two ways.
use Rattle.std.proofs.Common.{◌≡◌, ℕ, List, [], ◌∷◌, ◌++◌, refl, sym, ap, inl, inr, ◌⊎◌}

cons_both : (x a : ℕ) (s t : List ℕ) → x ≡ a → s ≡ t → x ∷ s ≡ a ∷ t
cons_both x a s t p q = rw p (ap (λ (l : List ℕ). a ∷ l) q)

-- one of the cuts comes first
abbrev pub Cut : List ℕ → List ℕ → List ℕ → List ℕ → Type 0
Cut xs ys bs cs = ((k : List ℕ) × (bs ≡ xs ++ k) × (ys ≡ k ++ cs)) ⊎ ((k : List ℕ) × (xs ≡ bs ++ k) × (cs ≡ k ++ ys))

pub cut : (xs ys bs cs : List ℕ) → xs ++ ys ≡ bs ++ cs → Cut xs ys bs cs
cut [] ys bs cs e = inl (bs, refl, e)
cut (x ∷ xs) ys [] cs e = inr (x ∷ xs, refl, sym e)
cut (x ∷ xs) ys (a ∷ bs) cs e =
    let same : x ≡ a = cc in
    let rest : xs ++ ys ≡ bs ++ cs = cc in
    elim (cut xs ys bs cs rest) [
      | inl h ↦ inl (h.0, cons_both a x bs (xs ++ h.0) (sym same) h.1, h.2)
      | inr h ↦ inr (h.0, cons_both x a xs (bs ++ h.0) same h.1, h.2)
    ]
