use Rattle.std.proofs.Common.{◌≤◌, arith}
use Rattle.sqlite.specs.Held.{state}
use Rattle.sqlite.specs.State.{Shown}
use Rattle.as2_rows.specs.Waiting.{kind_code}
use Rattle.as2_store.proofs.Statements.{any_due_text}
use Rattle.as2_store.proofs.Texts.{any_due_plain}
use Rattle.as2_store.proofs.ReadsBy.{reads_less}
use Rattle.as2_store.proofs.MetaRow.{fits_i64}
use Rattle.as2_store.proofs.DueRows.{any_params, finds_none}
use Rattle.as2_store.proofs.due.any_due_rows.Goals as goal

pub query_all-requires : goal.query_all-requires
query_all-requires g c = record {
  plain = any_due_plain;
}

pub returns : goal.returns
returns g c = record {
  rows =
      let old = state g.S.Store c.args.conn.now in
      let kind = kind_code c.args.wait in
      let m = c.args.moment in
      let most : kind ≤ 4 = rw c.code.ensures.code at c.code.ensures.most in
      reads_less _ _ old (state g.S.Store c.query_all.new.conn) c.query_all.result
      (λ s rows r shown.
      let it : Shown any_due_text (any_params kind m) old old rows.items =
      rw (
        c.params-to_sql.ensures,
        c.params-to_sql-2.ensures,
        c.whole-kind.ensures,
        c.code.ensures.code,
        c.whole-moment.ensures,
        c.seconds.ensures.seconds,
        fits_i64 kind (omega (arith, most)),
        fits_i64 m (omega (arith, c.seconds.ensures.bound, c.seconds.ensures.seconds)),
      ) at shown in
      finds_none kind m old old rows.items it s r) c.query_all.ensures.shown;
}
