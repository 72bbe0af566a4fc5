-- Among members whose names are distinct, a name finds the member that has it.
use Rattle.std.proofs.Common.{◌≡◌, ℕ, zero, suc, ◌<◌, Bool, false, List, [], ◌∷◌, ◌++◌, map, length, Option, Some, None, Bor, refl, sym, ap, subst, ◌∙◌, arith, inl, inr}
use Rattle.std.specs.Prelude.{IfSome, option_map, slice_index_or, ⊤}
use Rattle.std.specs.List.{AllByRecursion, IsDistinct, Contains, find}
use Rattle.std.specs.Str.{bytes_eq}
use Rattle.std.proofs.lemmas.Bool.{cases_Bool}
use Rattle.std.proofs.lemmas.Cmp.{nat_list_eq_equiv}
use Rattle.std.proofs.lemmas.Map.Keys.{IsDistinct-head, IsDistinct-tail}
use Rattle.std.proofs.lemmas.Slice.Eq.{bytes_eq-Decides}

pub distinct_back : (front back : List (List ℕ)) → IsDistinct bytes_eq (front ++ back) → IsDistinct bytes_eq back
distinct_back [] back d = d
distinct_back (x ∷ front) back d = distinct_back front back (IsDistinct-tail bytes_eq x (front ++ back) d)

module _ {X : Type 0} (name : X → List ℕ) where
  -- whether a member has the name
  abbrev pub has : List ℕ → X → Bool
  has wanted x = bytes_eq (name x) wanted

  other : (P : List ℕ → Type 0) (xs : List X) (x : X) (k : ℕ) → AllByRecursion P (map name xs) → k < length xs → slice_index_or xs k x ≡ x → P (name x)
  other P [] x k h short here = absurd (omega (arith, short))
  other P (y ∷ ys) x zero h short here = subst (λ (z : X). P (name z)) here h.0
  other P (y ∷ ys) x (suc k) h short here = other P ys x k h.1 (omega (arith, short)) here

  found_at : (xs : List X) (x : X) (k : ℕ) → IsDistinct bytes_eq (map name xs) → k < length xs → slice_index_or xs k x ≡ x → find (has (name x)) xs ≡ Some x
  found_at [] x k d short here = absurd (omega (arith, short))
  found_at (y ∷ ys) x zero d short here = rw (ap (has (name x)) here ∙ nat_list_eq_equiv.refl (name x)) (ap Some here)
  found_at (y ∷ ys) x (suc k) d short here =
      let differs : bytes_eq (name y) (name x) ≡ false =
      other (λ z. bytes_eq (name y) z ≡ false) ys x k (IsDistinct-head bytes_eq (name y) (map name ys) d) (omega (arith, short)) here in
      rw differs (found_at ys x k (IsDistinct-tail bytes_eq (name y) (map name ys) d) (omega (arith, short)) here)

  -- the member that has the name is found
  pub only_member : (xs : List X) (wanted : List ℕ) (x : X) → IsDistinct bytes_eq (map name xs) → Contains xs x → name x ≡ wanted
      → find (has wanted) xs ≡ Some x
  only_member xs wanted x d c same = subst (λ (w : List ℕ). find (has w) xs ≡ Some x) same (found_at xs x c.0 d c.1 c.2)

  -- what is found has the name, and what all have
  found_has : (P : X → Type 0) (xs : List X) (wanted : List ℕ) (x : X) → AllByRecursion P xs → find (has wanted) xs ≡ Some x → (name x ≡ wanted) × P x
  found_has P [] wanted x h e = absurd cc
  found_has P (y ∷ ys) wanted x h e =
      elim (cases_Bool (has wanted y)) [
        | inl t ↦
            let same : y ≡ x = cc in
            subst (λ (z : X). (name z ≡ wanted) × P z) same ((bytes_eq-Decides (name y) wanted).0 t, h.0)
        | inr f ↦ found_has P ys wanted x h.1 (sym (rw f refl) ∙ e)
      ]

  all_hold : (xs : List X) → AllByRecursion (λ _. ⊤) xs
  all_hold [] = tt
  all_hold (x ∷ xs) = (tt, all_hold xs)

  pub some_named : (xs : List X) (wanted : List ℕ) (r : Option (Bor X)) → option_map (λ x. x.now) r ≡ find (has wanted) xs → IfSome r (λ x. name x.now ≡ wanted)
  some_named xs wanted None e = tt
  some_named xs wanted (Some x) e = (found_has (λ _. ⊤) xs wanted x.now (all_hold xs) (sym e)).0

  pub some_has : (P : X → Type 0) (xs : List X) (wanted : List ℕ) (r : Option (Bor X)) → AllByRecursion P xs → option_map (λ x. x.now) r ≡ find (has wanted) xs
      → IfSome r (λ x. (name x.now ≡ wanted) × P x.now)
  some_has P xs wanted None h e = tt
  some_has P xs wanted (Some x) h e = found_has P xs wanted x.now h (sym e)
