use Rattle.std.proofs.Common.{Ok}
use Rattle.sqlite.specs.Held.{state}
use Rattle.sqlite.specs.State.{Executes}
use Rattle.sql_tables.proofs.Inside.{made, stays}
use Rattle.as2_store.proofs.Statements.{meta_put_text}
use Rattle.as2_store.proofs.MetaRow.{fits_i64}
use Rattle.as2_store.proofs.CreatedTables.{puts_meta, first_params}
use Rattle.as2_store.proofs.Committing.{ran_inside}
use Rattle.as2_store.proofs.counters.put_meta.Goals as goal

pub returns-in_err-execute-clause-within : goal.returns-in_err-execute-clause-within
returns-in_err-execute-clause-within g c =
    ran_inside g.S.Store _ _ c.args.tx.now.conn.now c.execute.new.self.conn.now c.execute.result _ _
    c.execute.ensures.ended c.execute.ensures.runs c.execute.ensures.survives

pub returns-clause-put : goal.returns-clause-put
returns-clause-put g c clean bare =
    let old = state g.S.Store c.args.tx.now.conn.now in
    let new = state g.S.Store c.execute.new.self.conn.now in
    let ran = (made g.S.Store _ _ c.args.tx.now.conn.now c.execute.new.self.conn.now c.execute.result _ _ c.execute.ensures.ended
    (c.execute.ensures.runs clean) c.in_ok-execute.field-0 c.in_ok-execute.was).2 in
    let went : Executes meta_put_text (first_params c.args.first) old new (Ok c.in_ok-execute.field-0) =
    rw (c.params-to_sql.ensures, c.whole-first.ensures, fits_i64 c.args.first c.requires) at ran in
    puts_meta old new c.args.first c.in_ok-execute.field-0 bare went

pub returns-clause-inside : goal.returns-clause-inside
returns-clause-inside g c clean =
    stays g.S.Store _ _ c.args.tx.now.conn.now c.execute.new.self.conn.now c.execute.result _ _ c.execute.ensures.ended
    (c.execute.ensures.runs clean) c.in_ok-execute.field-0 c.in_ok-execute.was
