use Rattle.std.proofs.Common.{Ok}
use Rattle.sqlite.specs.Held.{state}
use Rattle.sqlite.specs.State.{Executes}
use Rattle.sql_tables.proofs.Inside.{made, if_made}
use Rattle.as2_store.proofs.Statements.{in_set_text}
use Rattle.as2_store.proofs.MetaRow.{fits_i64}
use Rattle.as2_store.proofs.InboxQueries.{asked_small}
use Rattle.as2_store.proofs.InboxRow.{passed_attempt, passed_receipt}
use Rattle.as2_store.proofs.WaitingRows.{bound_optional}
use Rattle.as2_store.proofs.OwedTables.{sets_owed, owed_params}
use Rattle.as2_store.proofs.Committing.{ran_inside}
use Rattle.as2_store.proofs.owed.set_receipt_row.Goals as goal

pub returns-clause-within : goal.returns-clause-within
returns-clause-within g c =
    ran_inside g.S.Store _ _ c.args.tx.now.conn.now c.execute.new.self.conn.now c.execute.result _ _
    c.execute.ensures.ended c.execute.ensures.runs c.execute.ensures.survives

pub returns-clause-put : goal.returns-clause-put
returns-clause-put g c clean = if_made c.execute.result _ (λ count is way s it.
    let old = state g.S.Store c.args.tx.now.conn.now in
    let new = state g.S.Store c.execute.new.self.conn.now in
    let w = c.asked-wanted.result in
    let p = c.args.progress in
    let small = asked_small c.args.number w c.asked-wanted.ensures.beyond c.asked-wanted.ensures.within in
    let ran = (made g.S.Store _ _ c.args.tx.now.conn.now c.execute.new.self.conn.now c.execute.result _ _ c.execute.ensures.ended
    (c.execute.ensures.runs clean) count is).2 in
    let went : Executes in_set_text (owed_params w p) old new (Ok count) =
    rw (
      c.params-to_sql.ensures,
      c.params-to_sql-2.ensures,
      c.params-to_sql-3.ensures,
      c.params-to_sql-4.ensures,
      c.params-to_sql-5.ensures,
      c.whole-param.ensures,
      c.whole-tries.ensures,
      c.whole_or_none-due.ensures,
      c.receipt_stage_code.ensures,
      c.attempt_code.ensures,
      fits_i64 w small,
      fits_i64 p.tries c.requires.fits.tries_fit,
      passed_receipt p.receipt_stage,
      passed_attempt p.attempt,
      bound_optional,
    ) at ran in
    sets_owed c.args.number w count p c.asked-wanted.ensures.beyond c.asked-wanted.ensures.within old new s it went)
