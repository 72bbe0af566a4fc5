use Rattle.std.proofs.Common.{◌∙◌}
use Rattle.sqlite.specs.Held.{state}
use Rattle.as2_rows.specs.Waiting.{to_send, to_hear, to_end}
use Rattle.as2_store.proofs.WaitingPlaces.{still_held, taken_then}
use Rattle.as2_store.specs.Requeuing.{not_at}
use Rattle.as2_store.specs.Settling.{place_of}
use Rattle.as2_store.proofs.Committing.{inside_at}
use Rattle.as2_store.proofs.waiting.take_document.Goals as goal

pub returns-clause-put : goal.returns-clause-put
returns-clause-put g c clean way ws it =
    let old = state g.S.Store c.args.tx.now.conn.now in
    let one = state g.S.Store c.take_waiting.new.tx.conn.now in
    let two = state g.S.Store c.take_waiting-2.new.tx.conn.now in
    let new = state g.S.Store c.take_waiting-3.new.tx.conn.now in
    let n = c.args.number in
    let was_two = c.take_waiting-3.ensures.within.clean clean in
    let was_one = c.take_waiting-2.ensures.within.clean was_two in
    let p = place_of to_send n in
    let q = place_of to_hear n in
    let r = place_of to_end n in
    let first = rw c.place_of.ensures.place at c.in_ok-take_waiting.ensures.put was_one way ws it in
    let held = still_held old one p ws it first in
    let second = rw c.place_of-2.ensures.place at c.in_ok-take_waiting-2.ensures.put was_two way (not_at p ws) held in
    let third = rw c.place_of-3.ensures.place at c.in_ok-take_waiting-3.ensures.put clean way (not_at q (not_at p ws))
    (still_held one two q (not_at p ws) held second) in
    taken_then way old one two new _ _ _ first second third

pub returns-in_err-take_waiting-3-clause-within : goal.returns-in_err-take_waiting-3-clause-within
returns-in_err-take_waiting-3-clause-within g c =
    let old = state g.S.Store c.args.tx.now.conn.now in
    inside_at old (state g.S.Store c.take_waiting-2.new.tx.conn.now)
    (state g.S.Store c.take_waiting-3.new.tx.conn.now) c.args.tx.now.at c.take_waiting-2.new.tx.at
    (c.take_waiting-2.ensures.place ∙ c.take_waiting.ensures.place)
    (inside_at old (state g.S.Store c.take_waiting.new.tx.conn.now)
    (state g.S.Store c.take_waiting-2.new.tx.conn.now) c.args.tx.now.at c.take_waiting.new.tx.at c.take_waiting.ensures.place
    c.take_waiting.ensures.within c.take_waiting-2.ensures.within) c.take_waiting-3.ensures.within

pub returns-clause-within : goal.returns-clause-within
returns-clause-within g c =
    let old = state g.S.Store c.args.tx.now.conn.now in
    inside_at old (state g.S.Store c.take_waiting-2.new.tx.conn.now)
    (state g.S.Store c.take_waiting-3.new.tx.conn.now) c.args.tx.now.at c.take_waiting-2.new.tx.at
    (c.take_waiting-2.ensures.place ∙ c.take_waiting.ensures.place)
    (inside_at old (state g.S.Store c.take_waiting.new.tx.conn.now)
    (state g.S.Store c.take_waiting-2.new.tx.conn.now) c.args.tx.now.at c.take_waiting.new.tx.at c.take_waiting.ensures.place
    c.take_waiting.ensures.within c.take_waiting-2.ensures.within) c.take_waiting-3.ensures.within
