use Rattle.std.proofs.Common.{Ok}
use Rattle.sqlite.specs.Held.{state}
use Rattle.sqlite.specs.State.{Executes}
use Rattle.sql_tables.proofs.Inside.{made, stays}
use Rattle.as2_store.proofs.Statements.{waiting_take_text}
use Rattle.as2_store.proofs.MetaRow.{one_param, fits_i64}
use Rattle.as2_store.proofs.WaitingPlaces.{takes_waiting}
use Rattle.as2_store.proofs.Committing.{ran_inside}
use Rattle.as2_store.proofs.waiting.take_waiting.Goals as goal

pub returns-in_err-execute-clause-within : goal.returns-in_err-execute-clause-within
returns-in_err-execute-clause-within g c =
    ran_inside g.S.Store _ _ c.args.tx.now.conn.now c.execute.new.self.conn.now c.execute.result _ _
    c.execute.ensures.ended c.execute.ensures.runs c.execute.ensures.survives

pub returns-clause-put : goal.returns-clause-put
returns-clause-put g c clean way ws it =
    let old = state g.S.Store c.args.tx.now.conn.now in
    let new = state g.S.Store c.execute.new.self.conn.now in
    let ran = (made g.S.Store _ _ c.args.tx.now.conn.now c.execute.new.self.conn.now c.execute.result _ _ c.execute.ensures.ended
    (c.execute.ensures.runs clean) c.in_ok-execute.field-0 c.in_ok-execute.was).2 in
    let went : Executes waiting_take_text (one_param c.args.place) old new (Ok c.in_ok-execute.field-0) =
    rw (c.params-to_sql.ensures, c.whole-place.ensures, fits_i64 c.args.place c.requires) at ran in
    takes_waiting c.args.place c.in_ok-execute.field-0 old new ws it went

pub returns-clause-inside : goal.returns-clause-inside
returns-clause-inside g c clean =
    stays g.S.Store _ _ c.args.tx.now.conn.now c.execute.new.self.conn.now c.execute.result _ _ c.execute.ensures.ended
    (c.execute.ensures.runs clean) c.in_ok-execute.field-0 c.in_ok-execute.was
