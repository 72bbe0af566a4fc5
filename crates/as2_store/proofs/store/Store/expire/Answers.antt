use Rattle.std.proofs.Common.{ap}
use Rattle.sqlite.specs.Held.{state}
use Rattle.as2_store.proofs.ReadsBy.{write_of, write_told}
use Rattle.as2_store.proofs.store.Store.expire.Goals as goal

pub returns-clause-passed : goal.returns-clause-passed
returns-clause-passed g c =
    write_of _ _ _ _ _ (ap (state g.S.Store) c.self.view_is) (write_told _ _ _ _ c.map_err.result _ c.map_err.ensures.cases c.expire.ensures.passed)
