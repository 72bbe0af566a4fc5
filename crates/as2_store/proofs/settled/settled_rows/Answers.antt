use Rattle.sqlite.specs.Held.{state}
use Rattle.as2_store.proofs.Texts.{settled_plain}
use Rattle.as2_store.proofs.ReadsBy.{reads_less}
use Rattle.as2_store.proofs.SettledRows.{finds_settled}
use Rattle.as2_store.proofs.settled.settled_rows.Goals as goal

pub query_all-requires : goal.query_all-requires
query_all-requires g c = record {
  plain = settled_plain;
}

pub returns : goal.returns
returns g c = record {
  rows =
      let old = state g.S.Store c.args.conn.now in
      reads_less _ _ old (state g.S.Store c.query_all.new.conn) c.query_all.result
      (λ s rows r shown. finds_settled old old rows.items shown s r) c.query_all.ensures.shown;
}
