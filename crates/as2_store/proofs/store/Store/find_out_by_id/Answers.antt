use Rattle.std.proofs.Common.{◌∙◌, ap}
use Rattle.sqlite.specs.Held.{state}
use Rattle.as2_exchange.specs.Readings.{value_of}
use Rattle.as2_store.specs.Finding.{has_id}
use Rattle.as2_store.proofs.ReadsBy.{mapped, read_of, read_then}
use Rattle.as2_store.proofs.store.Store.find_out_by_id.Goals as goal

pub returns-clause-found : goal.returns-clause-found
unfolding value_of
returns-clause-found g c =
    read_of _ _ _ _ _ (ap (state g.S.Store) c.self.view_is)
    (read_then _ _ _ _ _ _ c.in_ok-rows.rows c.shown_document.result
    (λ s found r shown told. told (has_id c.args.id_value.now) (c.deref.ensures.value ∙ shown))
    (mapped _ _ _ _ _ _ _ c.map_err.ensures.cases c.in_ok-rows.was c.rows_by_id.ensures.rows) c.shown_document.ensures.found)
