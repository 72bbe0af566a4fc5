-- No two documents have identifiers of one value.
use Rattle.std.proofs.Common.{◌≡◌, ℕ, ◌<◌, ◌++◌, sym, ◌∙◌, arith}
use Rattle.std.specs.Prelude.{codes, decimal}
use Rattle.std.proofs.lemmas.Fmt.{decimal_injective}
use Rattle.std.proofs.lemmas.List.{append_cancel_left, append_cancel_right}
use Rattle.as2_names.proofs.Laws.{value_of-bracketed}
use Rattle.as2_exchange.specs.Agreement.{Agreements}
use Rattle.as2_exchange.specs.Jobs.{identifier_value}
use Rattle.as2_exchange.specs.Readings.{value_of, out_id}
use Rattle.as2_exchange.specs.State.{end_of_numbers}

-- the value of a document's identifier is what stands between its brackets
pub out_id-value : (A : Agreements) (n : ℕ) → value_of (out_id A n) ≡ identifier_value A n
unfolding value_of out_id
out_id-value A n = value_of-bracketed (identifier_value A n)

value-injective : (A : Agreements) (n k : ℕ) → n < end_of_numbers → k < end_of_numbers → identifier_value A n ≡ identifier_value A k → n ≡ k
value-injective A n k small less e =
    decimal_injective n k (omega arith) (omega arith)
    (append_cancel_left (codes "out-") (decimal n) (decimal k)
    (append_cancel_right (codes "out-" ++ decimal n) (codes "out-" ++ decimal k) (codes "@")
    (append_cancel_right (codes "out-" ++ decimal n ++ codes "@") (codes "out-" ++ decimal k ++ codes "@") A.domain e)))

-- two identifiers of one value are those of one document
pub out_id-injective : (A : Agreements) (n k : ℕ) → n < end_of_numbers → k < end_of_numbers → value_of (out_id A n) ≡ value_of (out_id A k) → n ≡ k
out_id-injective A n k small less e = value-injective A n k small less (sym (out_id-value A n) ∙ e ∙ out_id-value A k)
