use Rattle.sqlite.specs.Held.{state}
use Rattle.as2_store.proofs.CountedRows.{finds_receipt_stages}
use Rattle.as2_store.proofs.ReadsBy.{reads_less}
use Rattle.as2_store.proofs.Texts.{receipt_stage_plain}
use Rattle.as2_store.proofs.counting.receipt_stage_rows.Goals as goal

pub query_all-requires : goal.query_all-requires
query_all-requires g c = record {
  plain = receipt_stage_plain;
}

pub returns : goal.returns
returns g c = record {
  rows =
      let old = state g.S.Store c.args.conn.now in
      reads_less _ _ old (state g.S.Store c.query_all.new.conn) c.query_all.result
      (λ s rows r shown. finds_receipt_stages old old rows.items shown s r) c.query_all.ensures.shown;
}
