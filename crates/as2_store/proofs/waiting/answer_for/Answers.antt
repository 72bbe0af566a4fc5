use Rattle.sqlite.specs.Held.{state}
use Rattle.as2_store.specs.Owing.{answers_at}
use Rattle.as2_store.proofs.WaitingPlaces.{changed_renewed, ok_noted}
use Rattle.as2_store.proofs.waiting.answer_for.Goals as goal

pub returns-clause-put : goal.returns-clause-put
returns-clause-put g c clean =
    let old = state g.S.Store c.args.tx.now.conn.now in
    let mid = state g.S.Store c.take_waiting.new.tx.conn.now in
    let new = state g.S.Store c.put_owed_waiting.new.tx.conn.now in
    let was = c.put_owed_waiting.ensures.within.clean clean in
    ok_noted c.put_owed_waiting.result old mid new (answers_at c.args.number c.args.progress) _ _
    (λ way ws it. changed_renewed way old mid _ (rw c.place_of.ensures.place at c.in_ok-take_waiting.ensures.put was way ws it))
    (c.put_owed_waiting.ensures.put clean)
