use Rattle.std.proofs.Common.{◌≡◌, ◌++◌, take}
use Rattle.as2_rows.specs.Waiting.{kind_code}
use Rattle.as2_store.specs.Discrepancies.{documents_wanted}
use Rattle.as2_store.proofs.discrepancies.push_documents.Given as goal

-- the rows of the documents before this one are there
abbrev pub invariant-documents : goal.invariant-documents
invariant-documents l = l.wanted.items ≡ (l.fn.wanted.items ++ documents_wanted (kind_code l.wait) (take l.document-index l.sent))
