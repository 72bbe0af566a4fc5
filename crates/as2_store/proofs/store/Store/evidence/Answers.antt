use Rattle.std.proofs.Common.{ap}
use Rattle.sqlite.specs.Held.{state}
use Rattle.as2_store.proofs.ReadsBy.{read_of}
use Rattle.as2_store.proofs.store.Store.evidence.Goals as goal

pub returns-clause-found : goal.returns-clause-found
returns-clause-found g c = read_of _ _ _ _ _ (ap (state g.S.Store) c.self.view_is) c.evidence_in.ensures.evidence
