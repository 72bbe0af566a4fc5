use Rattle.std.proofs.Common.{◌≤◌, arith}
use Rattle.std.proofs.lemmas.Result.{IfOk-weaker}
use Rattle.sqlite.specs.Held.{state}
use Rattle.sqlite.specs.State.{HasCleanDisk, Shown}
use Rattle.sql_tables.proofs.Inside.{shown_open}
use Rattle.sql_tables.proofs.Asking.{shown_stays}
use Rattle.as2_rows.specs.Waiting.{kind_code}
use Rattle.as2_store.proofs.Statements.{all_due_text}
use Rattle.as2_store.proofs.Querying.{queried_inside}
use Rattle.as2_store.proofs.MetaRow.{fits_i64}
use Rattle.as2_store.proofs.DueRows.{any_params}
use Rattle.as2_store.proofs.PassedTables.{ok_then, reads_due}
use Rattle.as2_store.proofs.expiring.due_rows.Goals as goal

pub returns-clause-within : goal.returns-clause-within
returns-clause-within g c =
    let old = state g.S.Store c.args.tx.now.conn.now in
    let new = state g.S.Store c.query_all.new.self.conn.now in
    let was : HasCleanDisk new → HasCleanDisk old = λ clean. omega (arith, c.query_all.ensures.survives.clean, clean) in
    queried_inside (λ rows. rows.items) _ _ old new c.query_all.result
    (λ clean. c.requires.begun (was clean)) c.query_all.ensures.ok c.query_all.ensures.err c.query_all.ensures.survives

pub returns-clause-open : goal.returns-clause-open
returns-clause-open g c clean = ok_then c.query_all.result (c.query_all.ensures.ok clean) (λ rows shown. shown_open _ _ _ _ rows.items shown)

pub returns-clause-inside : goal.returns-clause-inside
returns-clause-inside g c clean =
    let old = state g.S.Store c.args.tx.now.conn.now in
    let new = state g.S.Store c.query_all.new.self.conn.now in
    let was : HasCleanDisk old = omega (arith, c.query_all.ensures.survives.clean, clean) in
    ok_then c.query_all.result (c.query_all.ensures.ok clean) (λ rows shown. shown_stays _ _ old new rows.items (c.requires.begun was) shown)

pub returns-clause-rows : goal.returns-clause-rows
returns-clause-rows g c clean =
    let old = state g.S.Store c.args.tx.now.conn.now in
    let new = state g.S.Store c.query_all.new.self.conn.now in
    let kind = kind_code c.args.wait in
    let m = c.args.moment in
    let most : kind ≤ 4 = rw c.code.ensures.code at c.code.ensures.most in
    IfOk-weaker c.query_all.result _ _
    (λ rows shown way s stood.
    let it : Shown all_due_text (any_params kind m) old new rows.items =
    rw (
      c.params-to_sql.ensures,
      c.params-to_sql-2.ensures,
      c.whole-kind.ensures,
      c.code.ensures.code,
      c.whole-moment.ensures,
      c.seconds.ensures.seconds,
      fits_i64 kind (omega (arith, most)),
      fits_i64 m (omega (arith, c.seconds.ensures.bound, c.seconds.ensures.seconds)),
    ) at shown in
    reads_due kind m old new rows.items it s stood)
    (c.query_all.ensures.ok clean)
