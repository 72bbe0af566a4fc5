use Rattle.std.proofs.Common.{Ok, sym, subst, [], ◌∷◌}
use Rattle.sqlite.specs.Held.{state}
use Rattle.sqlite.specs.State.{Executes}
use Rattle.sql_tables.proofs.Inside.{made}
use Rattle.as2_rows.specs.Contents.{Piece, piece_shown}
use Rattle.as2_store.specs.Adding.{AppendsPieces, piece_tree}
use Rattle.as2_store.specs.declared.contents.Mailbox.TheVariants.{Inbox, Outbox}
use Rattle.as2_store.proofs.Statements.{piece_put_text}
use Rattle.as2_store.proofs.MetaRow.{fits_i64}
use Rattle.as2_store.proofs.AddedPieces.{puts_piece_in}
use Rattle.as2_store.proofs.Committing.{ran_inside}
use Rattle.as2_store.proofs.contents.put_piece.Goals as goal

pub returns-in_err-execute-in-Inbox-clause-within : goal.returns-in_err-execute-in-Inbox-clause-within
returns-in_err-execute-in-Inbox-clause-within g c =
    ran_inside g.S.Store _ _ c.args.tx.now.conn.now c.execute.new.self.conn.now c.execute.result _ _
    c.execute.ensures.ended c.execute.ensures.runs c.execute.ensures.survives

pub returns-in_err-execute-in-Outbox-clause-within : goal.returns-in_err-execute-in-Outbox-clause-within
returns-in_err-execute-in-Outbox-clause-within g c =
    let e = c.execute-in-Outbox in
    ran_inside g.S.Store _ _ c.args.tx.now.conn.now e.new.self.conn.now e.result _ _ e.ensures.ended e.ensures.runs e.ensures.survives

pub returns-in_ok-execute-in-Inbox-clause-put : goal.returns-in_ok-execute-in-Inbox-clause-put
returns-in_ok-execute-in-Inbox-clause-put g c clean way has =
    let old = state g.S.Store c.args.tx.now.conn.now in
    let new = state g.S.Store c.execute.new.self.conn.now in
    let p : Piece = record { number = c.args.number; position = c.args.position; bytes = c.args.bytes.now } in
    let ran = (made g.S.Store _ _ c.args.tx.now.conn.now c.execute.new.self.conn.now c.execute.result _ _ c.execute.ensures.ended
    (c.execute.ensures.runs clean) c.in_ok-execute-in-Inbox.field-0 c.in_ok-execute-in-Inbox.was).2 in
    let went : Executes (piece_put_text Inbox) (piece_shown p) old new (Ok c.in_ok-execute-in-Inbox.field-0) =
    rw (
      c.params-to_sql.ensures,
      c.params-to_sql-in-Inbox.ensures,
      c.params-to_sql-in-Inbox-2.ensures,
      c.whole-number.ensures,
      c.whole-position.ensures,
      fits_i64 c.args.number c.requires.number,
      fits_i64 c.args.position c.requires.position,
    ) at ran in
    subst (λ b. AppendsPieces way old new (piece_tree way b) (p ∷ [])) (sym c.in-Inbox.is)
    (puts_piece_in way Inbox old new p c.in_ok-execute-in-Inbox.field-0 has went)

pub returns-in_ok-execute-in-Outbox-clause-put : goal.returns-in_ok-execute-in-Outbox-clause-put
returns-in_ok-execute-in-Outbox-clause-put g c clean way has =
    let old = state g.S.Store c.args.tx.now.conn.now in
    let e = c.execute-in-Outbox in
    let new = state g.S.Store e.new.self.conn.now in
    let p : Piece = record { number = c.args.number; position = c.args.position; bytes = c.args.bytes.now } in
    let ran = (made g.S.Store _ _ c.args.tx.now.conn.now e.new.self.conn.now e.result _ _ e.ensures.ended
    (e.ensures.runs clean) c.in_ok-execute-in-Outbox.field-0 c.in_ok-execute-in-Outbox.was).2 in
    let went : Executes (piece_put_text Outbox) (piece_shown p) old new (Ok c.in_ok-execute-in-Outbox.field-0) =
    rw (
      c.params-to_sql-in-Outbox.ensures,
      c.params-to_sql-in-Outbox-2.ensures,
      c.params-to_sql-in-Outbox-3.ensures,
      c.whole-number.ensures,
      c.whole-position.ensures,
      fits_i64 c.args.number c.requires.number,
      fits_i64 c.args.position c.requires.position,
    ) at ran in
    subst (λ b. AppendsPieces way old new (piece_tree way b) (p ∷ [])) (sym c.in-Outbox.is)
    (puts_piece_in way Outbox old new p c.in_ok-execute-in-Outbox.field-0 has went)
