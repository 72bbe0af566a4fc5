use Rattle.sqlite.specs.Held.{state}
use Rattle.sqlite.specs.State.{Shown}
use Rattle.as2_store.proofs.Statements.{out_pieces_text}
use Rattle.as2_store.proofs.Texts.{out_pieces_plain}
use Rattle.as2_store.proofs.ReadsBy.{reads_less}
use Rattle.as2_store.proofs.MetaRow.{fits_i64}
use Rattle.as2_store.proofs.EntryPieces.{finds_out_pieces, number_params}
use Rattle.as2_store.proofs.contents.out_piece_rows.Goals as goal

pub query_all-requires : goal.query_all-requires
query_all-requires g c = record {
  plain = out_pieces_plain;
}

pub returns : goal.returns
returns g c = record {
  rows =
      let old = state g.S.Store c.args.conn.now in
      reads_less _ _ old (state g.S.Store c.query_all.new.conn) c.query_all.result
      (λ s rows r shown.
      let it : Shown out_pieces_text (number_params c.args.number) old old rows.items =
      rw (c.params-to_sql.ensures, c.whole-number.ensures, fits_i64 c.args.number c.requires.number) at shown in
      finds_out_pieces old old c.args.number rows.items it s r) c.query_all.ensures.shown;
}
