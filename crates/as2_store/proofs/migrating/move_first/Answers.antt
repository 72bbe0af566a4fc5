use Rattle.sqlite.specs.Held.{state}
use Rattle.as2_records.specs.Standing.{IsCounted}
use Rattle.as2_store.specs.Tables.{Migrated}
use Rattle.as2_store.proofs.MigratedTables.{originated}
use Rattle.as2_store.proofs.Committing.{inside_then}
use Rattle.as2_store.proofs.migrating.move_first.Goals as goal

pub returns-clause-moved : goal.returns-clause-moved
returns-clause-moved g c clean s it is =
    let was_3 = c.put_origin.ensures.within.clean clean in
    let was_2 = c.empty_first.ensures.within.clean was_3 in
    let was_1 = c.move_contents.ensures.within.clean was_2 in
    let was_0 = c.copy_inbox.ensures.within.clean was_1 in
    let counted : IsCounted s = record { receipts = it.receipts; documents = it.documents } in
    let moved = c.in_ok-empty_first.ensures.emptied was_3 s counted
    (c.in_ok-move_contents.ensures.moved was_2 s (c.in_ok-copy_inbox.ensures.copied was_1 s counted (c.in_ok-make_beside.ensures.made was_0 s it))) in
    originated (state g.S.Store c.args.tx.now.conn.now) (state g.S.Store c.empty_first.new.tx.conn.now)
    (state g.S.Store c.put_origin.new.tx.conn.now) s c.args.next it is moved
    (c.in_ok-put_origin.ensures.put clean Migrated moved.schema moved.no_origin)

pub returns-in_err-put_origin-clause-within : goal.returns-in_err-put_origin-clause-within
returns-in_err-put_origin-clause-within g c =
    let old = state g.S.Store c.args.tx.now.conn.now in
    inside_then old (state g.S.Store c.empty_first.new.tx.conn.now) (state g.S.Store c.put_origin.new.tx.conn.now)
    (inside_then old (state g.S.Store c.move_contents.new.tx.conn.now) (state g.S.Store c.empty_first.new.tx.conn.now)
    (inside_then old (state g.S.Store c.copy_inbox.new.tx.conn.now) (state g.S.Store c.move_contents.new.tx.conn.now)
    (inside_then old (state g.S.Store c.make_beside.new.tx.conn.now)
    (state g.S.Store c.copy_inbox.new.tx.conn.now) c.make_beside.ensures.within c.copy_inbox.ensures.within) c.move_contents.ensures.within)
    c.empty_first.ensures.within) c.put_origin.ensures.within

pub returns-clause-within : goal.returns-clause-within
returns-clause-within g c =
    let old = state g.S.Store c.args.tx.now.conn.now in
    inside_then old (state g.S.Store c.empty_first.new.tx.conn.now) (state g.S.Store c.put_origin.new.tx.conn.now)
    (inside_then old (state g.S.Store c.move_contents.new.tx.conn.now) (state g.S.Store c.empty_first.new.tx.conn.now)
    (inside_then old (state g.S.Store c.copy_inbox.new.tx.conn.now) (state g.S.Store c.move_contents.new.tx.conn.now)
    (inside_then old (state g.S.Store c.make_beside.new.tx.conn.now)
    (state g.S.Store c.copy_inbox.new.tx.conn.now) c.make_beside.ensures.within c.copy_inbox.ensures.within) c.move_contents.ensures.within)
    c.empty_first.ensures.within) c.put_origin.ensures.within
