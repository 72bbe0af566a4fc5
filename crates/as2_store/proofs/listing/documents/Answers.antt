use Rattle.sqlite.specs.Held.{state}
use Rattle.as2_store.proofs.QueriedWithin.{alone_by, is_idle}
use Rattle.as2_store.proofs.listing.documents.Goals as goal

pub returns-clause-documents : goal.returns-clause-documents
returns-clause-documents g c =
    alone_by _ (state g.S.Store c.args.conn.now) (state g.S.Store c.documents_between.new.conn) c.documents_between.result
    (is_idle _ _ c.is_autocommit.ensures.value c.if-not-is_autocommit.false) c.documents_between.ensures.autocommit c.documents_between.ensures.documents
