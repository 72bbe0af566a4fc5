use Rattle.std.proofs.Common.{Ok, length, arith}
use Rattle.sqlite.specs.Held.{state}
use Rattle.sqlite.specs.State.{Executes}
use Rattle.sql_tables.proofs.Inside.{made}
use Rattle.as2_rows.specs.Rows.{in_shown}
use Rattle.as2_store.proofs.Statements.{in_put_text}
use Rattle.as2_store.proofs.MetaRow.{fits_i64}
use Rattle.as2_store.proofs.WaitingRows.{bound_optional}
use Rattle.as2_store.proofs.InboxRow.{puts_in, passed_outcome, passed_how, passed_receipt, passed_attempt, bound_url, bound_digest, bound_mic}
use Rattle.as2_store.proofs.Committing.{ran_inside}
use Rattle.as2_store.proofs.inbox.put_in.Goals as goal

pub returns-in_err-execute-clause-within : goal.returns-in_err-execute-clause-within
returns-in_err-execute-clause-within g c =
    ran_inside g.S.Store _ _ c.args.tx.now.conn.now c.execute.new.self.conn.now c.execute.result _ _
    c.execute.ensures.ended c.execute.ensures.runs c.execute.ensures.survives

pub returns-clause-put : goal.returns-clause-put
returns-clause-put g c clean way has =
    let old = state g.S.Store c.args.tx.now.conn.now in
    let new = state g.S.Store c.execute.new.self.conn.now in
    let e = c.args.entry.now in
    let ran = (made g.S.Store _ _ c.args.tx.now.conn.now c.execute.new.self.conn.now c.execute.result _ _ c.execute.ensures.ended
    (c.execute.ensures.runs clean) c.in_ok-execute.field-0 c.in_ok-execute.was).2 in
    let went : Executes in_put_text (in_shown e) old new (Ok c.in_ok-execute.field-0) =
    rw (
      c.params-to_sql.ensures,
      c.params-to_sql-2.ensures,
      c.params-to_sql-3.ensures,
      c.params-to_sql-4.ensures,
      c.params-to_sql-5.ensures,
      c.params-to_sql-6.ensures,
      c.params-to_sql-7.ensures,
      c.params-to_sql-8.ensures,
      c.params-to_sql-9.ensures,
      c.params-to_sql-10.ensures,
      c.params-to_sql-11.ensures,
      c.params-to_sql-12.ensures,
      c.params-to_sql-13.ensures,
      c.params-to_sql-14.ensures,
      c.params-to_sql-15.ensures,
      c.params-to_sql-16.ensures,
      c.params-to_sql-17.ensures,
      c.bytes.ensures.bytes,
      c.bytes-2.ensures.bytes,
      c.as_bytes.ensures.value,
      c.value.ensures,
      c.as_bytes-2.ensures.value,
      c.as_received.ensures.text,
      c.as_slice.ensures,
      c.whole-number.ensures,
      c.whole-length.ensures,
      c.len.ensures,
      c.whole-moment.ensures,
      c.seconds.ensures.seconds,
      c.whole-tries.ensures,
      c.whole_or_none-due.ensures,
      c.outcome_code.ensures,
      c.how_code.ensures,
      c.url_of.ensures,
      c.digest_of.ensures,
      c.mic_of.ensures,
      c.receipt_stage_code.ensures,
      c.attempt_code.ensures,
      fits_i64 e.number c.requires.number,
      fits_i64 (length e.posted.content) c.requires.fits.length_fits,
      fits_i64 e.moment (omega (arith, c.seconds.ensures.bound, c.seconds.ensures.seconds)),
      fits_i64 e.tries c.requires.fits.tries_fit,
      passed_outcome e.posted.outcome,
      passed_how e.posted.how,
      passed_receipt e.receipt_stage,
      passed_attempt e.attempt,
      bound_optional,
      bound_url,
      bound_digest,
      bound_mic,
    ) at ran in
    puts_in way old new e c.in_ok-execute.field-0 has went
