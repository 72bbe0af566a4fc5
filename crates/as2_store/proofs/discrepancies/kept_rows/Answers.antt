use Rattle.std.proofs.Common.{◌∙◌}
use Rattle.as2_store.specs.Discrepancies.{rows_of}
use Rattle.as2_store.specs.Stands.{all_waiting}
use Rattle.as2_store.proofs.ReadsBy.{mapped, read_if}
use Rattle.as2_store.proofs.discrepancies.kept_rows.Goals as goal

pub returns-clause-kept : goal.returns-clause-kept
returns-clause-kept g c =
    read_if _ _ _ _ c.in_ok-rows.rows c.read_rows.result _ c.read_rows.ensures.shown
    (λ s read shown rows. shown (rows_of (all_waiting s)) (c.as_slice.ensures.value ∙ rows))
    (mapped _ _ _ _ _ _ _ c.map_err.ensures.cases c.in_ok-rows.was c.shown_rows.ensures.rows)
