use Rattle.std.proofs.Common.{◌≡◌, ◌++◌, map, take, drop, is_some, count_by}
use Rattle.as2_exchange.specs.Documents.{passed_document, passes_at}
use Rattle.as2_lists.proofs.outbox.expire.Given as goal

abbrev pub invariant-loop-document : goal.invariant-loop-document
invariant-loop-document l = record {
  passed : l.document-items ≡ map (λ d. passed_document d (passes_at l.fn.moment d)) (take l.document-index l.fn.documents.items)
      ++ drop l.document-index l.fn.documents.items;
  counted : l.count ≡ count_by (λ d. is_some (passes_at l.fn.moment d)) (take l.document-index l.fn.documents.items);
}
