use Rattle.std.proofs.Common.{◌∙◌, ap}
use Rattle.sqlite.specs.Held.{state}
use Rattle.as2_records.specs.Listing.{settled_numbers}
use Rattle.as2_store.proofs.ReadsBy.{mapped, read_of, read_told}
use Rattle.as2_store.proofs.store.Store.settled.Goals as goal

pub returns-clause-numbers : goal.returns-clause-numbers
returns-clause-numbers g c =
    read_of _ _ _ _ _ (ap (state g.S.Store) c.self.view_is)
    (read_told _ _ _ _ c.in_ok-rows.rows c.numbers_in.result _ _ _ c.map_err-2.ensures.cases c.numbers_in.ensures
    (λ s numbers shown rows. shown (settled_numbers s) (c.as_slice.ensures.value ∙ rows))
    (mapped _ _ _ _ _ _ _ c.map_err.ensures.cases c.in_ok-rows.was c.settled_rows.ensures.rows))
