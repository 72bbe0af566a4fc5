use Rattle.as2_exchange.proofs.Granting.{document_granted, receipt_granted}
use Rattle.as2_exchange.proofs.nothing_settled_is_sent.Goals as goal

pub returns-clause-documents : goal.returns-clause-documents
returns-clause-documents c = document_granted

pub returns-clause-receipts : goal.returns-clause-receipts
returns-clause-receipts c = receipt_granted
