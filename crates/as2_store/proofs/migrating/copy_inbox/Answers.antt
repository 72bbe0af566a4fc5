use Rattle.sqlite.specs.Held.{state}
use Rattle.as2_store.proofs.MigratedTables.{copied_inbox}
use Rattle.as2_store.proofs.migrating.copy_inbox.Goals as goal

pub returns-clause-copied : goal.returns-clause-copied
returns-clause-copied g c clean s counted it =
    let ran = c.in_ok-run.ensures.ran clean in
    copied_inbox s counted (state g.S.Store c.args.tx.now.conn.now) (state g.S.Store c.run.new.tx.conn.now) ran.0 ran.1 it
