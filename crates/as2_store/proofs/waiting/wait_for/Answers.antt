use Rattle.sqlite.specs.Held.{state}
use Rattle.as2_store.specs.Progressing.{waits_at}
use Rattle.as2_store.proofs.WaitingPlaces.{ok_noted}
use Rattle.as2_store.proofs.waiting.wait_for.Goals as goal

pub returns-clause-put : goal.returns-clause-put
returns-clause-put g c clean =
    let old = state g.S.Store c.args.tx.now.conn.now in
    let mid = state g.S.Store c.take_document.new.tx.conn.now in
    let new = state g.S.Store c.put_out_waiting.new.tx.conn.now in
    ok_noted c.put_out_waiting.result old mid new (waits_at c.args.number c.args.progress) _ _
    (c.in_ok-take_document.ensures.put (c.put_out_waiting.ensures.within.clean clean))
    (c.put_out_waiting.ensures.put clean)
