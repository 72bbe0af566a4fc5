use Rattle.std.proofs.Common.{ap, subst}
use Rattle.sqlite.specs.Held.{state}
use Rattle.sqlite.specs.State.{State as Connected}
use Rattle.as2_store.specs.Rounds.{BeginsRound}
use Rattle.as2_store.proofs.Turning.{begins_told}
use Rattle.as2_store.proofs.store.Store.hold.Goals as goal

pub returns-clause-begins : goal.returns-clause-begins
returns-clause-begins g c =
    subst (λ (o : Connected). BeginsRound o (state g.S.Store c.hold.new.conn) c.map_err.result) (ap (state g.S.Store) c.self.view_is)
    (begins_told _ _ _ c.map_err.result _ c.map_err.ensures.cases c.hold.ensures.begins)
