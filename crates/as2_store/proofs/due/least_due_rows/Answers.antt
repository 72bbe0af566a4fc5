use Rattle.std.proofs.Common.{◌+◌, ◌*◌, ◌≤◌, sym, arith}
use Rattle.sqlite.specs.Held.{state}
use Rattle.sqlite.specs.State.{Shown}
use Rattle.as2_rows.specs.Waiting.{kind_code}
use Rattle.as2_store.specs.Due.{least_behind}
use Rattle.as2_store.proofs.Statements.{least_due_text}
use Rattle.as2_store.proofs.Texts.{least_due_plain}
use Rattle.as2_store.proofs.ReadsBy.{reads_less}
use Rattle.as2_store.proofs.MetaRow.{fits_i64}
use Rattle.as2_store.proofs.DueRows.{least_params, finds_least}
use Rattle.as2_store.proofs.due.least_due_rows.Goals as goal

pub query_all-requires : goal.query_all-requires
query_all-requires g c = record {
  plain = least_due_plain;
}

pub returns : goal.returns
returns g c = record {
  rows =
      let old = state g.S.Store c.args.conn.now in
      let kind = kind_code c.args.wait in
      let m = c.args.moment in
      let b = c.args.behind in
      let most : kind ≤ 4 = rw c.code.ensures.code at c.code.ensures.most in
      reads_less _ _ old (state g.S.Store c.query_all.new.conn) c.query_all.result
      (λ s rows r shown.
      let it : Shown least_due_text (least_params kind b m) old old rows.items =
      rw (
        c.params-to_sql.ensures,
        c.params-to_sql-2.ensures,
        c.params-to_sql-3.ensures,
        c.whole-first.ensures,
        c.code.ensures.code,
        c.whole-end.ensures,
        c.code-2.ensures.code,
        c.whole-moment.ensures,
        c.seconds.ensures.seconds,
        c.least_behind.ensures.least,
        fits_i64 (kind * 1000000000000 + least_behind b) (omega (arith, most, sym c.least_behind.ensures.least, c.least_behind.ensures.most)),
        fits_i64 ((kind + 1) * 1000000000000) (omega (arith, most)),
        fits_i64 m (omega (arith, c.seconds.ensures.bound, c.seconds.ensures.seconds)),
      ) at shown in
      finds_least kind b m old old rows.items it s r) c.query_all.ensures.shown;
}
