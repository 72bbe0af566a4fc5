use Rattle.std.proofs.Common.{Ok}
use Rattle.sqlite.specs.Held.{state}
use Rattle.sqlite.specs.State.{Executes}
use Rattle.sql_tables.proofs.Inside.{if_made, made}
use Rattle.as2_store.proofs.Statements.{out_settle_text}
use Rattle.as2_store.proofs.MetaRow.{fits_i64}
use Rattle.as2_store.proofs.SettledTables.{settles, settle_params, passed_detail}
use Rattle.as2_store.proofs.Committing.{ran_inside}
use Rattle.as2_store.proofs.settling.set_settled.Goals as goal

pub returns-clause-within : goal.returns-clause-within
returns-clause-within g c =
    ran_inside g.S.Store _ _ c.args.tx.now.conn.now c.execute.new.self.conn.now c.execute.result _ _
    c.execute.ensures.ended c.execute.ensures.runs c.execute.ensures.survives

pub returns-clause-put : goal.returns-clause-put
returns-clause-put g c clean = if_made c.execute.result _ (λ count is way s it e.
    let old = state g.S.Store c.args.tx.now.conn.now in
    let new = state g.S.Store c.execute.new.self.conn.now in
    let n = c.args.number in
    let detail = c.args.detail in
    let ran = (made g.S.Store _ _ c.args.tx.now.conn.now c.execute.new.self.conn.now c.execute.result _ _ c.execute.ensures.ended
    (c.execute.ensures.runs clean) count is).2 in
    let went : Executes out_settle_text (settle_params n detail) old new (Ok count) =
    rw (
      c.params-to_sql.ensures,
      c.params-to_sql-2.ensures,
      c.whole-number.ensures,
      c.detail_code-detail.ensures,
      fits_i64 n c.requires,
      passed_detail detail,
    ) at ran in
    settles n count detail e old new s it went)
