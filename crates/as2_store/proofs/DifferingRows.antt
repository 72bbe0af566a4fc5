-- The first difference between two lists of rows.
use Rattle.std.proofs.Common.{◌≡◌, ◌∙◌, ℕ, zero, suc, ◌≤◌, nat_lt, List, [], ◌∷◌, length, take, take_all, Option, Some, None, Bool, true, false, cond, refl, sym, ap, ap₂, arith}
use Rattle.std.specs.List.{slice_get}
use Rattle.as2_store.specs.declared.discrepancies.PlacedWaitingRow.{PlacedWaitingRow}
use Rattle.as2_store.specs.Discrepancies.{Compares, DifferAt, lower}

past : {X : Type 0} (xs : List X) (i : ℕ) → slice_get xs i ≡ None → length xs ≤ i
past [] i none = omega arith
past (x ∷ xs) zero none = absurd cc
past (x ∷ xs) (suc i) none = omega (arith, past xs i none)

pub compares : (wanted kept : List PlacedWaitingRow) (at : ℕ) → take at wanted ≡ take at kept
    → (slice_get wanted at ≡ slice_get kept at → slice_get wanted at ≡ None) → Compares wanted kept (lower (slice_get wanted at) (slice_get kept at))
compares wanted kept at before there = go (slice_get wanted at) (slice_get kept at) refl refl
  where
    go : (a b : Option PlacedWaitingRow) → slice_get wanted at ≡ a → slice_get kept at ≡ b → Compares wanted kept (lower a b)
    go None None is was = sym (take_all at wanted (past wanted at is)) ∙ before ∙ take_all at kept (past kept at was)
    go None (Some other) is was = (at, record { before = before; there = λ same. absurd (let e = sym is ∙ same ∙ was in cc) }, ap₂ lower is was)
    go (Some row) None is was = (at, record { before = before; there = λ same. absurd (let e = sym is ∙ there same in cc) }, ap₂ lower is was)
    go (Some row) (Some other) is was = by (nat_lt other.place row.place) refl
      where
        differs : DifferAt wanted kept at
        differs = record { before = before; there = λ same. absurd (let e = sym is ∙ there same in cc) }

        by : (t : Bool) → nat_lt other.place row.place ≡ t → Compares wanted kept (cond t (Some other) (Some row))
        by true e = (at, differs, ap₂ lower is was ∙ ap (λ t. cond t (Some other) (Some row)) e)
        by false e = (at, differs, ap₂ lower is was ∙ ap (λ t. cond t (Some other) (Some row)) e)
