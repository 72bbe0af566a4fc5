use Rattle.std.proofs.Common.{Ok, arith}
use Rattle.sqlite.specs.Held.{state}
use Rattle.sqlite.specs.State.{Executes}
use Rattle.sql_tables.proofs.Inside.{made, stays}
use Rattle.as2_store.proofs.Statements.{out_pass_text}
use Rattle.as2_store.proofs.MetaRow.{fits_i64}
use Rattle.as2_store.proofs.SettledTables.{passed_detail}
use Rattle.as2_store.proofs.PassedTables.{pass_params, passes_one}
use Rattle.as2_store.proofs.Committing.{ran_inside}
use Rattle.as2_store.proofs.expiring.pass.Goals as goal

pub returns-in_err-execute-clause-within : goal.returns-in_err-execute-clause-within
returns-in_err-execute-clause-within g c =
    ran_inside g.S.Store _ _ c.args.tx.now.conn.now c.execute.new.self.conn.now c.execute.result _ _
    c.execute.ensures.ended c.execute.ensures.runs c.execute.ensures.survives

pub returns-clause-put : goal.returns-clause-put
returns-clause-put g c clean way ds it =
    let old = state g.S.Store c.args.tx.now.conn.now in
    let new = state g.S.Store c.execute.new.self.conn.now in
    let n = c.args.number in
    let detail = c.args.detail in
    let ran = (made g.S.Store _ _ c.args.tx.now.conn.now c.execute.new.self.conn.now c.execute.result _ _ c.execute.ensures.ended
    (c.execute.ensures.runs clean) c.in_ok-execute.field-0 c.in_ok-execute.was).2 in
    let went : Executes out_pass_text (pass_params n detail) old new (Ok c.in_ok-execute.field-0) =
    rw (
      c.params-to_sql.ensures,
      c.params-to_sql-2.ensures,
      c.whole-number.ensures,
      c.detail_code.ensures,
      fits_i64 n (omega (arith, c.requires)),
      passed_detail detail,
    ) at ran in
    passes_one n c.in_ok-execute.field-0 detail old new ds it went

pub returns-clause-inside : goal.returns-clause-inside
returns-clause-inside g c clean =
    stays g.S.Store _ _ c.args.tx.now.conn.now c.execute.new.self.conn.now c.execute.result _ _ c.execute.ensures.ended
    (c.execute.ensures.runs clean) c.in_ok-execute.field-0 c.in_ok-execute.was
