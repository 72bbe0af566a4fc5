-- `query_all`: alone it is `query_alone`, as the tactic finds; within a round the rows are shown, and nothing is changed.
use Rattle.std.proofs.Common.{sym, ◌∙◌}
use Rattle.sqlite.specs.Held.{state}
use Rattle.sqlite.specs.Values.{bound}
use Rattle.as2_store.proofs.QueriedWithin.{is_within, queried_within}
use Rattle.as2_store.proofs.reading.query_all.Goals as goal

pub returns : goal.returns
returns g c = record {
  shown = queried_within (λ rows. rows.items) c.args.sql.now (bound c.args.params.now) (state g.S.Store c.args.conn.now)
      (state g.S.Store c.query_all.new.self) c.query_all.result (is_within _ (sym c.is_autocommit.ensures.value ∙ c.if-is_autocommit.false))
      c.requires.plain c.query_all.ensures.ok c.query_all.ensures.err c.query_all.ensures.survives;
}
