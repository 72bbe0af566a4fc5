use Rattle.as2_json.proofs.Returning.{counts_back, document_back, in_back, out_back}
use Rattle.as2_json.proofs.laws.listings_read_back.Goals as goal

pub returns-clause-outbox : goal.returns-clause-outbox
returns-clause-outbox c = out_back

pub returns-clause-inbox : goal.returns-clause-inbox
returns-clause-inbox c = in_back

pub returns-clause-counts : goal.returns-clause-counts
returns-clause-counts c = counts_back

pub returns-clause-document : goal.returns-clause-document
returns-clause-document c = document_back
