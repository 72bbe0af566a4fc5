use Rattle.sqlite.specs.Held.{state}
use Rattle.sqlite.specs.State.{Shown}
use Rattle.as2_store.proofs.Statements.{resent_read_text}
use Rattle.as2_store.proofs.Texts.{resent_read_plain}
use Rattle.as2_store.proofs.ReadsBy.{reads_less}
use Rattle.as2_store.proofs.MetaRow.{fits_i64, one_param}
use Rattle.as2_store.proofs.ResentTables.{finds_resent}
use Rattle.as2_store.proofs.resending.resent_rows.Goals as goal

pub query_all-requires : goal.query_all-requires
query_all-requires g c = record {
  plain = resent_read_plain;
}

pub returns : goal.returns
returns g c = record {
  rows =
      let old = state g.S.Store c.args.conn.now in
      reads_less _ _ old (state g.S.Store c.query_all.new.conn) c.query_all.result
      (λ s rows r shown.
      let it : Shown resent_read_text (one_param c.args.number) old old rows.items =
      rw (c.params-to_sql.ensures, c.whole-number.ensures, fits_i64 c.args.number c.requires.number) at shown in
      finds_resent c.args.number old old rows.items it s r) c.query_all.ensures.shown;
}
