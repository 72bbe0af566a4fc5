use Rattle.sqlite.specs.Held.{state}
use Rattle.as2_store.proofs.QueriedWithin.{alone_by, is_idle}
use Rattle.as2_store.proofs.listing.entries.Goals as goal

pub returns-clause-entries : goal.returns-clause-entries
returns-clause-entries g c =
    alone_by _ (state g.S.Store c.args.conn.now) (state g.S.Store c.entries_alone.new.conn) c.entries_alone.result
    (is_idle _ _ c.is_autocommit.ensures.value c.if-not-is_autocommit.false) c.entries_alone.ensures.autocommit c.entries_alone.ensures.entries
