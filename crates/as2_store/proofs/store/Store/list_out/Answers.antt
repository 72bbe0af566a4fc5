use Rattle.std.proofs.Common.{ap}
use Rattle.sqlite.specs.Held.{state}
use Rattle.as2_store.proofs.ReadsBy.{mapped, read_of, read_then}
use Rattle.as2_store.proofs.store.Store.list_out.Goals as goal

pub returns-clause-documents : goal.returns-clause-documents
returns-clause-documents g c =
    read_of _ _ _ _ _ (ap (state g.S.Store) c.self.view_is)
    (read_then _ _ _ _ _ _ c.in_ok-map_err.field-0 c.documents.result (λ s found r first listed. listed)
    (mapped _ _ _ _ _ _ _ c.map_err.ensures.cases c.in_ok-map_err.was c.meta_rows.ensures.rows) c.documents.ensures.documents)
