use Rattle.sqlite.specs.Held.{state}
use Rattle.sqlite.specs.State.{Shown}
use Rattle.as2_store.proofs.Statements.{out_by_id_text}
use Rattle.as2_store.proofs.Texts.{out_by_id_plain}
use Rattle.as2_store.proofs.ReadsBy.{reads_less}
use Rattle.as2_store.proofs.OutboxQueries.{finds_id, id_params}
use Rattle.as2_store.proofs.outbox.rows_by_id.Goals as goal

pub query_all-requires : goal.query_all-requires
query_all-requires g c = record {
  plain = out_by_id_plain;
}

pub returns : goal.returns
returns g c = record {
  rows =
      let old = state g.S.Store c.args.conn.now in
      reads_less _ _ old (state g.S.Store c.query_all.new.conn) c.query_all.result
      (λ s rows r shown.
      let it : Shown out_by_id_text (id_params c.args.value.now) old old rows.items = rw (c.params-to_sql.ensures) at shown in
      finds_id c.args.value.now old old rows.items it s r) c.query_all.ensures.shown;
}
