use Rattle.std.proofs.Common.{Ok, ◌+◌, arith}
use Rattle.sqlite.specs.Held.{state}
use Rattle.sqlite.specs.State.{Executes}
use Rattle.sql_tables.proofs.Inside.{if_made, made, stays}
use Rattle.as2_store.proofs.Statements.{receipt_text}
use Rattle.as2_store.proofs.MetaRow.{counts_receipts, raise_params, fits_i64}
use Rattle.as2_store.proofs.Committing.{ran_inside}
use Rattle.as2_store.proofs.counters.raise_next_receipt.Goals as goal

pub returns-clause-within : goal.returns-clause-within
returns-clause-within g c =
    ran_inside g.S.Store _ _ c.args.tx.now.conn.now c.execute.new.self.conn.now c.execute.result _ _
    c.execute.ensures.ended c.execute.ensures.runs c.execute.ensures.survives

pub returns-clause-put : goal.returns-clause-put
returns-clause-put g c clean = if_made c.execute.result _ (λ count is way n m has some.
    let old = state g.S.Store c.args.tx.now.conn.now in
    let new = state g.S.Store c.execute.new.self.conn.now in
    let number = c.args.number in
    let ran = (made g.S.Store _ _ c.args.tx.now.conn.now c.execute.new.self.conn.now c.execute.result _ _ c.execute.ensures.ended
    (c.execute.ensures.runs clean) count is).2 in
    let went : Executes receipt_text (raise_params number) old new (Ok count) =
    rw (
      c.params-to_sql.ensures,
      c.params-to_sql-2.ensures,
      c.whole-number.ensures,
      c.whole-next.ensures,
      fits_i64 number (omega (arith, c.requires)),
      fits_i64 (number + 1) c.requires,
    ) at ran in
    counts_receipts way old new number count n m went has some)

pub returns-clause-inside : goal.returns-clause-inside
returns-clause-inside g c clean =
    if_made c.execute.result _
    (λ count is. stays g.S.Store _ _ c.args.tx.now.conn.now c.execute.new.self.conn.now c.execute.result _ _ c.execute.ensures.ended
    (c.execute.ensures.runs clean) count is)
