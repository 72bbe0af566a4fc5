use Rattle.std.proofs.Common.{ap, subst}
use Rattle.sqlite.specs.Held.{state}
use Rattle.sqlite.specs.State.{State as Connected}
use Rattle.as2_store.specs.Rounds.{CommitsRound}
use Rattle.as2_store.proofs.Turning.{ends_told}
use Rattle.as2_store.proofs.store.Store.commit.Goals as goal

pub returns-clause-ends : goal.returns-clause-ends
returns-clause-ends g c =
    subst (λ (o : Connected). CommitsRound o (state g.S.Store c.commit.new.conn) c.map_err.result) (ap (state g.S.Store) c.self.view_is)
    (ends_told _ _ _ c.map_err.result _ c.map_err.ensures.cases c.commit.ensures.ends)
