use Rattle.sqlite.specs.Held.{state}
use Rattle.as2_store.proofs.MigratedTables.{makes_third}
use Rattle.as2_store.proofs.migrating.move_second.Goals as goal

pub returns-clause-moved : goal.returns-clause-moved
returns-clause-moved g c clean way s it =
    let ran = c.in_ok-run.ensures.ran clean in
    makes_third way (state g.S.Store c.args.tx.now.conn.now) (state g.S.Store c.run.new.tx.conn.now) ran.0 s it ran.1
