use Rattle.std.proofs.Common.{◌≡◌, subst, arith}
use Rattle.sqlite.specs.Held.{state}
use Rattle.as2_store.specs.Resending.{IsReady}
use Rattle.as2_store.proofs.resending.ready.Goals as goal

pub returns-in_ok-mark-clause-readied : goal.returns-in_ok-mark-clause-readied
returns-in_ok-mark-clause-readied g c clean way s stood =
    let new = state g.S.Store c.mark.new.tx.conn.now in
    let none : 0 ≡ c.args.tries = omega (arith, c.if-tries-eq0.true) in
    subst (λ t. IsReady way new.now s c.args.number t) none (c.in_ok-mark.ensures.marked clean way s stood)
