use Rattle.sqlite.specs.Held.{state}
use Rattle.sqlite.specs.State.{Shown}
use Rattle.as2_store.proofs.Statements.{meta_read_text}
use Rattle.as2_store.proofs.Texts.{meta_read_plain}
use Rattle.as2_store.proofs.ReadsBy.{reads_less}
use Rattle.std.proofs.Common.{[]}
use Rattle.as2_store.proofs.MetaRow.{reads_meta}
use Rattle.as2_store.proofs.counters.meta_rows.Goals as goal

pub query_all-requires : goal.query_all-requires
query_all-requires g c = record {
  plain = λ way. meta_read_plain _ _;
}

pub returns : goal.returns
returns g c = record {
  rows =
      let old = state g.S.Store c.args.conn.now in
      reads_less _ _ old (state g.S.Store c.query_all.new.conn) c.query_all.result
      (λ s rows r shown.
      let it : Shown meta_read_text [] old old rows.items = shown in
      reads_meta old old rows.items it s r) c.query_all.ensures.shown;
}
