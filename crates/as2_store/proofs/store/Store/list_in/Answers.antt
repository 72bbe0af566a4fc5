use Rattle.std.proofs.Common.{ap}
use Rattle.sqlite.specs.Held.{state}
use Rattle.as2_store.proofs.ReadsBy.{mapped, read_of, read_then}
use Rattle.as2_store.proofs.store.Store.list_in.Goals as goal

pub returns-clause-entries : goal.returns-clause-entries
returns-clause-entries g c =
    read_of _ _ _ _ _ (ap (state g.S.Store) c.self.view_is)
    (read_then _ _ _ _ _ _ c.in_ok-map_err.field-0 c.entries.result (λ s found r first listed. listed)
    (mapped _ _ _ _ _ _ _ c.map_err.ensures.cases c.in_ok-map_err.was c.meta_rows.ensures.rows) c.entries.ensures.entries)
