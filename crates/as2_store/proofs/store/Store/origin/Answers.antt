use Rattle.std.proofs.Common.{◌∙◌, ap}
use Rattle.sqlite.specs.Held.{state}
use Rattle.as2_exchange.specs.State.{origin_of}
use Rattle.as2_store.proofs.ReadsBy.{mapped, read_of, read_told}
use Rattle.as2_store.proofs.store.Store.origin.Goals as goal

pub returns-clause-origin : goal.returns-clause-origin
returns-clause-origin g c =
    read_of _ _ _ _ _ (ap (state g.S.Store) c.self.view_is)
    (read_told _ _ _ _ _ _ c.map_err-2.result _ _ c.map_err-2.ensures.cases c.origin_in.ensures
    (λ s number is shown. is (origin_of s.version) (c.deref.ensures.value ∙ shown))
    (mapped _ _ _ _ _ _ _ c.map_err.ensures.cases c.in_ok-rows.was c.origin_rows.ensures.rows))
