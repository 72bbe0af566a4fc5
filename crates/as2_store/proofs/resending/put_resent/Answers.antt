use Rattle.std.proofs.Common.{Ok}
use Rattle.sqlite.specs.Held.{state}
use Rattle.sqlite.specs.State.{Executes}
use Rattle.sql_tables.proofs.Inside.{made}
use Rattle.as2_store.proofs.Statements.{resent_put_text}
use Rattle.as2_store.proofs.MetaRow.{fits_i64, one_param}
use Rattle.as2_store.proofs.ResentTables.{puts_resent}
use Rattle.as2_store.proofs.Committing.{ran_inside}
use Rattle.as2_store.proofs.resending.put_resent.Goals as goal

pub returns-in_err-execute-clause-within : goal.returns-in_err-execute-clause-within
returns-in_err-execute-clause-within g c =
    ran_inside g.S.Store _ _ c.args.tx.now.conn.now c.execute.new.self.conn.now c.execute.result _ _
    c.execute.ensures.ended c.execute.ensures.runs c.execute.ensures.survives

pub returns-clause-put : goal.returns-clause-put
returns-clause-put g c clean way has =
    let old = state g.S.Store c.args.tx.now.conn.now in
    let new = state g.S.Store c.execute.new.self.conn.now in
    let ran = (made g.S.Store _ _ c.args.tx.now.conn.now c.execute.new.self.conn.now c.execute.result _ _ c.execute.ensures.ended
    (c.execute.ensures.runs clean) c.in_ok-execute.field-0 c.in_ok-execute.was).2 in
    let went : Executes resent_put_text (one_param c.args.number) old new (Ok c.in_ok-execute.field-0) =
    rw (c.params-to_sql.ensures, c.whole-number.ensures, fits_i64 c.args.number c.requires) at ran in
    puts_resent way old new c.args.number c.in_ok-execute.field-0 has went
