use Rattle.sqlite.specs.Held.{state}
use Rattle.as2_store.proofs.AddedTables.{entered}
use Rattle.as2_store.proofs.adding.put_received.Goals as goal

pub returns-clause-put : goal.returns-clause-put
returns-clause-put g c clean way s it =
    let was_two = c.put_in_waiting.ensures.within.clean clean in
    let was_one = c.put_pieces.ensures.within.clean was_two in
    let one = c.in_ok-put_in.ensures.put was_one way it.schema in
    let two = c.in_ok-put_pieces.ensures.put was_two way one.schema_is in
    let three = c.in_ok-put_in_waiting.ensures.put clean way two.schema_is in
    entered way (state g.S.Store c.args.tx.now.conn.now) (state g.S.Store c.put_in.new.tx.conn.now) (state g.S.Store c.put_pieces.new.tx.conn.now)
    (state g.S.Store c.put_in_waiting.new.tx.conn.now)
    s c.args.entry.now it c.requires.number one two three
