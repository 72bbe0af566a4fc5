use Rattle.sqlite.specs.Held.{state}
use Rattle.sqlite.specs.State.{Shown}
use Rattle.as2_store.proofs.Statements.{in_by_number_text}
use Rattle.as2_store.proofs.Texts.{in_by_number_plain}
use Rattle.as2_store.proofs.ReadsBy.{reads_less}
use Rattle.as2_store.proofs.MetaRow.{fits_i64}
use Rattle.as2_store.proofs.InboxQueries.{finds_number, by_number_params, asked_small}
use Rattle.as2_store.proofs.inbox.rows_by_number.Goals as goal

pub query_all-requires : goal.query_all-requires
query_all-requires g c = record {
  plain = in_by_number_plain;
}

pub returns : goal.returns
returns g c = record {
  rows =
      let old = state g.S.Store c.args.conn.now in
      let w = c.asked-wanted.result in
      let fits = asked_small c.args.number w c.asked-wanted.ensures.beyond c.asked-wanted.ensures.within in
      reads_less _ _ old (state g.S.Store c.query_all.new.conn) c.query_all.result
      (λ s rows r shown.
      let it : Shown in_by_number_text (by_number_params w) old old rows.items =
      rw (c.params-to_sql.ensures, c.whole-param.ensures, fits_i64 w fits) at shown in
      finds_number c.args.number w c.asked-wanted.ensures.beyond c.asked-wanted.ensures.within old old rows.items it s r) c.query_all.ensures.shown;
}
