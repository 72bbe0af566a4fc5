use Rattle.std.proofs.Common.{◌∙◌, ap, cond}
use Rattle.sqlite.specs.Held.{state}
use Rattle.as2_store.proofs.MigratedTables.{nearly_first, nearly_second}
use Rattle.as2_store.proofs.migrating.move_to.Goals as goal

pub returns-then-earlier-clause-moved : goal.returns-then-earlier-clause-moved
returns-then-earlier-clause-moved g c clean layout s it which next =
    nearly_first layout (state g.S.Store c.args.tx.now.conn.now) (state g.S.Store c.move_first.new.tx.conn.now) s c.args.earlier.next
    (which ∙ ap (λ b. cond b 1 2) c.if-earlier.true) next it (c.in_ok-move_first.ensures.moved clean)

pub returns-clause-moved : goal.returns-clause-moved
returns-clause-moved g c clean layout s it which next =
    nearly_second layout (state g.S.Store c.args.tx.now.conn.now) (state g.S.Store c.move_second.new.tx.conn.now) s
    (which ∙ ap (λ b. cond b 1 2) c.if-earlier.false) it (c.in_ok-move_second.ensures.moved clean)
