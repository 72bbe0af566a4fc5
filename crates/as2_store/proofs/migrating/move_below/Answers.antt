use Rattle.sqlite.specs.Held.{state}
use Rattle.as2_store.proofs.MovedPieces.{moved_below}
use Rattle.as2_store.proofs.migrating.move_below.Goals as goal

pub returns-clause-moved : goal.returns-clause-moved
returns-clause-moved g c clean s it =
    let was_1 = c.run_below-2.ensures.within.clean clean in
    let ran_1 = c.in_ok-run_below.ensures.ran was_1 in
    let ran_2 = c.in_ok-run_below-2.ensures.ran clean in
    moved_below c.args.below (state g.S.Store c.args.tx.now.conn.now) (state g.S.Store c.run_below.new.tx.conn.now)
    (state g.S.Store c.run_below-2.new.tx.conn.now) ran_1.0 ran_2.0 s ran_1.1 ran_2.1 it
