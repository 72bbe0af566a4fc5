use Rattle.sqlite.specs.Held.{state}
use Rattle.as2_store.proofs.MigratedTables.{emptied_first}
use Rattle.as2_store.proofs.migrating.empty_first.Goals as goal

pub returns-clause-emptied : goal.returns-clause-emptied
returns-clause-emptied g c clean s counted it =
    let ran = c.in_ok-run.ensures.ran clean in
    emptied_first s counted (state g.S.Store c.args.tx.now.conn.now) (state g.S.Store c.run.new.tx.conn.now) ran.0 ran.1 it
