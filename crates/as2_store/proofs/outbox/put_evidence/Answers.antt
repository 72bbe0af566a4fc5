use Rattle.std.proofs.Common.{Ok, arith}
use Rattle.sqlite.specs.Held.{state}
use Rattle.sqlite.specs.State.{Executes}
use Rattle.sql_tables.proofs.Inside.{made}
use Rattle.as2_store.proofs.Statements.{evidence_put_text}
use Rattle.as2_store.proofs.MetaRow.{fits_i64}
use Rattle.as2_store.proofs.SettledTables.{puts_evidence, fresh_evidence, receipt_params}
use Rattle.as2_store.proofs.Committing.{ran_inside}
use Rattle.as2_store.proofs.outbox.put_evidence.Goals as goal

pub returns-in_err-execute-clause-within : goal.returns-in_err-execute-clause-within
returns-in_err-execute-clause-within g c =
    ran_inside g.S.Store _ _ c.args.tx.now.conn.now c.execute.new.self.conn.now c.execute.result _ _
    c.execute.ensures.ended c.execute.ensures.runs c.execute.ensures.survives

pub returns-clause-put : goal.returns-clause-put
returns-clause-put g c clean way has =
    let old = state g.S.Store c.args.tx.now.conn.now in
    let new = state g.S.Store c.execute.new.self.conn.now in
    let n = c.args.number in
    let e = c.args.evidence.now in
    let ran = (made g.S.Store _ _ c.args.tx.now.conn.now c.execute.new.self.conn.now c.execute.result _ _ c.execute.ensures.ended
    (c.execute.ensures.runs clean) c.in_ok-execute.field-0 c.in_ok-execute.was).2 in
    let went : Executes evidence_put_text (receipt_params n e) old new (Ok c.in_ok-execute.field-0) =
    rw (
      c.params-to_sql.ensures,
      c.params-to_sql-2.ensures,
      c.params-to_sql-3.ensures,
      c.params-to_sql-4.ensures,
      c.as_slice.ensures,
      c.whole-number.ensures,
      c.whole-moment.ensures,
      c.seconds.ensures.seconds,
      c.requires.body,
      fits_i64 n c.requires.number,
      fits_i64 e.moment (omega (arith, c.seconds.ensures.bound, c.seconds.ensures.seconds)),
    ) at ran in
    (puts_evidence way old new n e c.in_ok-execute.field-0 has went, fresh_evidence way old new n e c.in_ok-execute.field-0 has went)
