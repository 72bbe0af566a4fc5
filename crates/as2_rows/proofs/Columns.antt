-- A row is the list of its columns.
use Rattle.std.proofs.Common.{◌≡◌, ℕ, ◌∷◌, map, length, sym, ap₂, ◌∙◌, arith}
use Rattle.std.specs.List.{range_with_len}
use Rattle.std.proofs.lemmas.List.{ext_get_or}
use Rattle.std.proofs.lemmas.List.FromFn.{get_or-map-range_with_len, length-map-range_with_len}
use Rattle.sqlite_value.specs.Order.{Row, column}
use Rattle.sqlite_value.specs.declared.value.Value.{Value}
use Rattle.sqlite_value.specs.declared.value.Value.TheVariants.{Null}

pub columns_are : (r : Row) (n : ℕ) → length r ≡ n → r ≡ map (column r) (range_with_len 0 n)
columns_are r n long =
    ext_get_or Null r (map (column r) (range_with_len 0 n)) (long ∙ sym (length-map-range_with_len (column r) 0 n))
    (λ i within. sym (get_or-map-range_with_len (column r) 0 n i i Null (omega (arith, within, long)) (omega arith)))

-- equal rows, one value after the other
pub same : {a b : Value} {r s : Row} → a ≡ b → r ≡ s → a ∷ r ≡ b ∷ s
same e f = ap₂ (λ v l. v ∷ l) e f
