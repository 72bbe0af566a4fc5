use Rattle.std.proofs.Common.{◌≤◌, arith, Ok}
use Rattle.sqlite.specs.Held.{state}
use Rattle.sqlite.specs.State.{Executes}
use Rattle.sql_tables.proofs.Inside.{made, stays}
use Rattle.as2_rows.specs.Waiting.{kind_code}
use Rattle.as2_store.proofs.Statements.{waiting_take_due_text}
use Rattle.as2_store.proofs.MetaRow.{fits_i64}
use Rattle.as2_store.proofs.DueRows.{any_params}
use Rattle.as2_store.proofs.PassedTables.{takes_due}
use Rattle.as2_store.proofs.Committing.{ran_inside}
use Rattle.as2_store.proofs.expiring.take_due.Goals as goal

pub returns-in_err-execute-clause-within : goal.returns-in_err-execute-clause-within
returns-in_err-execute-clause-within g c =
    ran_inside g.S.Store _ _ c.args.tx.now.conn.now c.execute.new.self.conn.now c.execute.result _ _
    c.execute.ensures.ended c.execute.ensures.runs c.execute.ensures.survives

pub returns-clause-put : goal.returns-clause-put
returns-clause-put g c clean way ws it =
    let old = state g.S.Store c.args.tx.now.conn.now in
    let new = state g.S.Store c.execute.new.self.conn.now in
    let kind = kind_code c.args.wait in
    let m = c.args.moment in
    let most : kind ≤ 4 = rw c.code.ensures.code at c.code.ensures.most in
    let ran = (made g.S.Store _ _ c.args.tx.now.conn.now c.execute.new.self.conn.now c.execute.result _ _ c.execute.ensures.ended
    (c.execute.ensures.runs clean) c.in_ok-execute.field-0 c.in_ok-execute.was).2 in
    let went : Executes waiting_take_due_text (any_params kind m) old new (Ok c.in_ok-execute.field-0) =
    rw (
      c.params-to_sql.ensures,
      c.params-to_sql-2.ensures,
      c.whole-kind.ensures,
      c.code.ensures.code,
      c.whole-moment.ensures,
      c.seconds.ensures.seconds,
      fits_i64 kind (omega (arith, most)),
      fits_i64 m (omega (arith, c.seconds.ensures.bound, c.seconds.ensures.seconds)),
    ) at ran in
    takes_due kind m c.in_ok-execute.field-0 old new ws it went

pub returns-clause-inside : goal.returns-clause-inside
returns-clause-inside g c clean =
    stays g.S.Store _ _ c.args.tx.now.conn.now c.execute.new.self.conn.now c.execute.result _ _ c.execute.ensures.ended
    (c.execute.ensures.runs clean) c.in_ok-execute.field-0 c.in_ok-execute.was
