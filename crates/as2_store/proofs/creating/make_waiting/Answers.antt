use Rattle.sqlite.specs.Held.{state}
use Rattle.as2_store.proofs.CreatedTables.{makes_waiting}
use Rattle.as2_store.proofs.creating.make_waiting.Goals as goal

pub returns-clause-made : goal.returns-clause-made
returns-clause-made g c clean =
    let was_1 = c.run-2.ensures.within.clean clean in
    let ran_1 = c.in_ok-run.ensures.ran was_1 in
    let ran_2 = c.in_ok-run-2.ensures.ran clean in
    makes_waiting (state g.S.Store c.args.tx.now.conn.now) (state g.S.Store c.run.new.tx.conn.now)
    (state g.S.Store c.run-2.new.tx.conn.now) ran_1.0 ran_2.0 ran_1.1 ran_2.1
