use Rattle.sqlite.specs.Held.{state}
use Rattle.as2_store.specs.Tables.{Fresh}
use Rattle.as2_store.proofs.CreatedTables.{none_yet, stands_empty}
use Rattle.as2_store.proofs.creating.put_first.Goals as goal

pub returns-clause-put : goal.returns-clause-put
returns-clause-put g c clean bare =
    let old = state g.S.Store c.args.tx.now.conn.now in
    let mid = state g.S.Store c.put_meta.new.tx.conn.now in
    let new = state g.S.Store c.put_origin.new.tx.conn.now in
    let first = c.args.first in
    let one = c.in_ok-put_meta.ensures.put (c.put_origin.ensures.within.clean clean) bare in
    let two = c.in_ok-put_origin.ensures.put clean Fresh one.schema_is (none_yet old mid first bare one) in
    stands_empty old mid new first c.requires.least c.requires.most bare one two
