use Rattle.std.proofs.Common.{◌∙◌}
use Rattle.sqlite.specs.Held.{state}
use Rattle.as2_store.proofs.AddedDocument.{entered_document}
use Rattle.as2_store.proofs.Committing.{inside_at}
use Rattle.as2_store.proofs.submitting.put_submitted.Goals as goal

pub returns-clause-put : goal.returns-clause-put
returns-clause-put g c clean way s it =
    let was_two = c.put_out_waiting.ensures.within.clean clean in
    let was_one = c.put_pieces.ensures.within.clean was_two in
    let one = c.in_ok-put_out.ensures.put was_one way it.schema in
    let two = c.in_ok-put_pieces.ensures.put was_two way one.schema_is in
    let three = rw c.progress_of.ensures at c.in_ok-put_out_waiting.ensures.put clean way two.schema_is in
    entered_document way (state g.S.Store c.args.tx.now.conn.now) (state g.S.Store c.put_out.new.tx.conn.now)
    (state g.S.Store c.put_pieces.new.tx.conn.now) (state g.S.Store c.put_out_waiting.new.tx.conn.now)
    s c.args.entry.now it c.requires.number c.requires.unsettled c.requires.begun one two three

pub returns-clause-within : goal.returns-clause-within
returns-clause-within g c =
    let old = state g.S.Store c.args.tx.now.conn.now in
    inside_at old (state g.S.Store c.put_pieces.new.tx.conn.now) (state g.S.Store c.put_out_waiting.new.tx.conn.now) c.args.tx.now.at c.put_pieces.new.tx.at
    (c.put_pieces.ensures.place ∙ c.put_out.ensures.place)
    (inside_at old (state g.S.Store c.put_out.new.tx.conn.now)
    (state g.S.Store c.put_pieces.new.tx.conn.now) c.args.tx.now.at c.put_out.new.tx.at c.put_out.ensures.place
    c.put_out.ensures.within c.put_pieces.ensures.within) c.put_out_waiting.ensures.within
