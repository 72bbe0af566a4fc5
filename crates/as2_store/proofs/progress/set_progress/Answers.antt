use Rattle.std.proofs.Common.{Ok}
use Rattle.sqlite.specs.Held.{state}
use Rattle.sqlite.specs.State.{Executes}
use Rattle.sql_tables.proofs.Inside.{if_made, made}
use Rattle.as2_store.proofs.Statements.{out_set_text}
use Rattle.as2_store.proofs.MetaRow.{fits_i64}
use Rattle.as2_store.proofs.InboxRow.{passed_attempt}
use Rattle.as2_store.proofs.SettledTables.{passed_detail}
use Rattle.as2_store.proofs.SetTables.{sets, set_params}
use Rattle.as2_store.proofs.WaitingRows.{bound_optional}
use Rattle.as2_store.proofs.Committing.{ran_inside}
use Rattle.as2_store.proofs.progress.set_progress.Goals as goal

pub returns-clause-within : goal.returns-clause-within
returns-clause-within g c =
    ran_inside g.S.Store _ _ c.args.tx.now.conn.now c.execute.new.self.conn.now c.execute.result _ _
    c.execute.ensures.ended c.execute.ensures.runs c.execute.ensures.survives

pub returns-clause-put : goal.returns-clause-put
returns-clause-put g c clean = if_made c.execute.result _ (λ count is way s it.
    let old = state g.S.Store c.args.tx.now.conn.now in
    let new = state g.S.Store c.execute.new.self.conn.now in
    let n = c.args.number in
    let p = c.args.progress in
    let ran = (made g.S.Store _ _ c.args.tx.now.conn.now c.execute.new.self.conn.now c.execute.result _ _ c.execute.ensures.ended
    (c.execute.ensures.runs clean) count is).2 in
    let went : Executes out_set_text (set_params n p) old new (Ok count) =
    rw (
      c.params-to_sql.ensures,
      c.params-to_sql-2.ensures,
      c.params-to_sql-3.ensures,
      c.params-to_sql-4.ensures,
      c.params-to_sql-5.ensures,
      c.whole-number.ensures,
      c.whole-tries.ensures,
      c.whole_or_none-due.ensures,
      c.attempt_code.ensures,
      c.detail_code.ensures,
      fits_i64 n c.requires.number,
      fits_i64 p.tries c.requires.fits.tries_fit,
      passed_attempt p.attempt,
      passed_detail p.detail,
      bound_optional,
    ) at ran in
    sets n count p old new s it went)
