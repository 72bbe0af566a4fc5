use Rattle.std.proofs.Common.{ap}
use Rattle.sqlite.specs.Held.{state}
use Rattle.as2_store.proofs.ReadsBy.{write_of, write_told}
use Rattle.as2_store.proofs.store.Store.settle.Goals as goal

pub returns-clause-settled : goal.returns-clause-settled
returns-clause-settled g c =
    write_of _ _ _ _ _ (ap (state g.S.Store) c.self.view_is) (write_told _ _ _ _ c.map_err.result _ c.map_err.ensures.cases c.settle.ensures.settled)
