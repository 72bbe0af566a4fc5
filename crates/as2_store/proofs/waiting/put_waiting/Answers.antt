use Rattle.std.proofs.Common.{Ok, arith, ◌*◌, ◌+◌, ◌≤◌}
use Rattle.sqlite.specs.Held.{state}
use Rattle.sqlite.specs.State.{Executes}
use Rattle.sql_tables.proofs.Inside.{made, stays}
use Rattle.as2_rows.specs.Waiting.{WaitingRow, kind_code}
use Rattle.as2_store.proofs.Statements.{waiting_put_text}
use Rattle.as2_store.proofs.MetaRow.{fits_i64}
use Rattle.as2_store.proofs.WaitingRows.{puts_waiting, waiting_params, bound_optional}
use Rattle.as2_store.proofs.Committing.{ran_inside}
use Rattle.as2_store.proofs.waiting.put_waiting.Goals as goal

pub returns-in_err-execute-clause-within : goal.returns-in_err-execute-clause-within
returns-in_err-execute-clause-within g c =
    ran_inside g.S.Store _ _ c.args.tx.now.conn.now c.execute.new.self.conn.now c.execute.result _ _
    c.execute.ensures.ended c.execute.ensures.runs c.execute.ensures.survives

pub returns-clause-put : goal.returns-clause-put
returns-clause-put g c clean way has =
    let old = state g.S.Store c.args.tx.now.conn.now in
    let new = state g.S.Store c.execute.new.self.conn.now in
    let w : WaitingRow = record { kind = kind_code c.args.wait; number = c.args.number; due = c.args.due } in
    let most : kind_code c.args.wait ≤ 4 = rw c.code-kind.ensures.code at c.code-kind.ensures.most in
    let ran = (made g.S.Store _ _ c.args.tx.now.conn.now c.execute.new.self.conn.now c.execute.result _ _ c.execute.ensures.ended
    (c.execute.ensures.runs clean) c.in_ok-execute.field-0 c.in_ok-execute.was).2 in
    let went : Executes waiting_put_text (waiting_params w) old new (Ok c.in_ok-execute.field-0) =
    rw (
      c.params-to_sql.ensures,
      c.params-to_sql-2.ensures,
      c.params-to_sql-3.ensures,
      c.params-to_sql-4.ensures,
      c.whole-place.ensures,
      c.whole-kind.ensures,
      c.code-kind.ensures.code,
      c.whole-number.ensures,
      c.whole_or_none-due.ensures,
      fits_i64 (kind_code c.args.wait * 1000000000000 + c.args.number) (omega (arith, most, c.requires.number)),
      fits_i64 (kind_code c.args.wait) (omega (arith, most)),
      fits_i64 c.args.number (omega (arith, c.requires.number)),
      bound_optional,
    ) at ran in
    puts_waiting way old new w c.in_ok-execute.field-0 has went

pub returns-clause-inside : goal.returns-clause-inside
returns-clause-inside g c clean =
    stays g.S.Store _ _ c.args.tx.now.conn.now c.execute.new.self.conn.now c.execute.result _ _ c.execute.ensures.ended
    (c.execute.ensures.runs clean) c.in_ok-execute.field-0 c.in_ok-execute.was
