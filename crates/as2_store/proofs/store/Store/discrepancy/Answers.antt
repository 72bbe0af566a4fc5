use Rattle.std.proofs.Common.{ap}
use Rattle.sqlite.specs.Held.{state}
use Rattle.as2_store.proofs.ReadsBy.{read_of}
use Rattle.as2_store.proofs.store.Store.discrepancy.Goals as goal

pub returns-clause-none : goal.returns-clause-none
returns-clause-none g c = read_of _ _ _ _ _ (ap (state g.S.Store) c.self.view_is) c.discrepancy.ensures.none
