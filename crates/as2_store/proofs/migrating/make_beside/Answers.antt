use Rattle.sqlite.specs.Held.{state}
use Rattle.as2_store.proofs.MigratedTables.{makes_beside}
use Rattle.as2_store.proofs.migrating.make_beside.Goals as goal

pub returns-clause-made : goal.returns-clause-made
returns-clause-made g c clean s it =
    let was_1 = c.run-2.ensures.within.clean clean in
    let was_0 = c.run.ensures.within.clean was_1 in
    let ran_1 = c.in_ok-run.ensures.ran was_1 in
    let ran_2 = c.in_ok-run-2.ensures.ran clean in
    makes_beside (state g.S.Store c.make_inbox_beside.new.tx.conn.now) (state g.S.Store c.run.new.tx.conn.now)
    (state g.S.Store c.run-2.new.tx.conn.now) ran_1.0 ran_2.0 ran_1.1 ran_2.1 s
    (c.in_ok-make_inbox_beside.ensures.made was_0 s it)
