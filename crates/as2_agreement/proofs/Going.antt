-- An array is gone through entry by entry: what is read joins what was read before it, and the first fault ends it.
use Rattle.std.proofs.Common.{◌≡◌, ℕ, ◌+◌, ◌<◌, List, [], ◌∷◌, ◌++◌, length, get_or, drop, Ok, Err, refl, ◌∙◌, ap, add-one}
use Rattle.std.proofs.Math.Seq.{drop-cons}
use Rattle.toml.specs.declared.value.Value.{Value}
use Rattle.toml.specs.Data.{Data}
use Rattle.toml.specs.View.{view, items_view}
use Rattle.as2_agreement.specs.Places.{first_faulty}
use Rattle.as2_agreement.specs.Reading.{OrFirstFault, each}
use Rattle.as2_agreement.specs.declared.fault.AgreementFault.{AgreementFault}

module _ {X : Type 0} (one : List X → Data → OrFirstFault X) (before : List X) (entries : List Value) (i : ℕ) (v : Value)
    (inside : i < length entries) (is : v ≡ get_or entries i v) where
  here : items_view (drop i entries) ≡ items_view (v ∷ drop (i + 1) entries)
  here =
      let split : drop i entries ≡ v ∷ drop (i + 1) entries = drop-cons entries i v inside ∙ rw (← is, add-one i) refl in
      ap items_view split

  pub each_next : (x : X) → one before (view v) ≡ Ok x
      → each one before (items_view (drop i entries)) ≡ each one (before ++ x ∷ []) (items_view (drop (i + 1) entries))
  each_next x read = rw here (rw read refl)

  pub each_fault : (fault : AgreementFault) → one before (view v) ≡ Err fault → each one before (items_view (drop i entries)) ≡ Err fault
  each_fault fault read = rw here (rw read refl)

  -- the same, where the first fault is looked for
  pub faulty_next : (n next : ℕ) (x : X) → n + 1 ≡ next → one before (view v) ≡ Ok x
      → first_faulty one n before (items_view (drop i entries)) ≡ first_faulty one next (before ++ x ∷ []) (items_view (drop (i + 1) entries))
  faulty_next n next x is read = rw here (rw read (ap (λ (k : ℕ). first_faulty one k (before ++ x ∷ []) (items_view (drop (i + 1) entries))) is))
