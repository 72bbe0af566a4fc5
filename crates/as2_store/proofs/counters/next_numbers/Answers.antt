use Rattle.std.proofs.Common.{◌∙◌}
use Rattle.as2_store.proofs.ReadsBy.{mapped, read_told}
use Rattle.as2_store.proofs.counters.next_numbers.Goals as goal

pub returns-clause-numbers : goal.returns-clause-numbers
returns-clause-numbers g c =
    read_told _ _ _ _ _ _ c.map_err-2.result _ _ c.map_err-2.ensures.cases c.next_of.ensures
    (λ s next is shown. let it = is s.next_in s.next_out (c.deref.ensures.value ∙ shown) in record { receipt = it.0; document = it.1 })
    (mapped _ _ _ _ _ _ _ c.map_err.ensures.cases c.in_ok-rows.was c.meta_rows.ensures.rows)
