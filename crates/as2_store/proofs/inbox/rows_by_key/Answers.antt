use Rattle.sqlite.specs.Held.{state}
use Rattle.sqlite.specs.State.{Shown}
use Rattle.as2_store.proofs.Statements.{in_by_key_text}
use Rattle.as2_store.proofs.Texts.{in_by_key_plain}
use Rattle.as2_store.proofs.ReadsBy.{reads_less}
use Rattle.as2_store.proofs.InboxQueries.{finds_key, key_params}
use Rattle.as2_store.proofs.inbox.rows_by_key.Goals as goal

pub query_all-requires : goal.query_all-requires
query_all-requires g c = record {
  plain = in_by_key_plain;
}

pub returns : goal.returns
returns g c = record {
  rows =
      let old = state g.S.Store c.args.conn.now in
      reads_less _ _ old (state g.S.Store c.query_all.new.conn) c.query_all.result
      (λ s rows r shown.
      let it : Shown in_by_key_text (key_params c.args.sender.now c.args.receiver.now c.args.value.now) old old rows.items =
      rw (c.params-to_sql.ensures, c.params-to_sql-2.ensures, c.params-to_sql-3.ensures) at shown in
      finds_key c.args.sender.now c.args.receiver.now c.args.value.now old old rows.items it s r) c.query_all.ensures.shown;
}
