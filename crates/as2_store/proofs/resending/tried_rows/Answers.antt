use Rattle.std.proofs.Common.{arith}
use Rattle.std.proofs.lemmas.Result.{IfOk-weaker}
use Rattle.sqlite.specs.Held.{state}
use Rattle.sqlite.specs.State.{HasCleanDisk, Shown}
use Rattle.as2_store.proofs.Statements.{tried_text}
use Rattle.as2_store.proofs.Querying.{queried_inside}
use Rattle.as2_store.proofs.MetaRow.{fits_i64, one_param}
use Rattle.as2_store.proofs.ResentTables.{reads_tried}
use Rattle.as2_store.proofs.resending.tried_rows.Goals as goal

pub returns-clause-within : goal.returns-clause-within
returns-clause-within g c =
    let old = state g.S.Store c.args.tx.now.conn.now in
    let new = state g.S.Store c.query_all.new.self.conn.now in
    let was : HasCleanDisk new → HasCleanDisk old = λ clean. omega (arith, c.query_all.ensures.survives.clean, clean) in
    queried_inside (λ rows. rows.items) _ _ old new c.query_all.result
    (λ clean. c.requires.begun (was clean)) c.query_all.ensures.ok c.query_all.ensures.err c.query_all.ensures.survives

pub returns-clause-rows : goal.returns-clause-rows
returns-clause-rows g c clean =
    let old = state g.S.Store c.args.tx.now.conn.now in
    let new = state g.S.Store c.query_all.new.self.conn.now in
    let n = c.args.number in
    IfOk-weaker c.query_all.result _ _
    (λ rows shown way s stood.
    let it : Shown tried_text (one_param n) old new rows.items = rw (c.params-to_sql.ensures, c.whole-number.ensures, fits_i64 n c.requires.number) at shown in
    reads_tried n old new rows.items it s stood)
    (c.query_all.ensures.ok clean)
