use Rattle.std.proofs.Common.{◌∙◌}
use Rattle.as2_text.proofs.ReceiptRequests.{shown_found, asks_again}
use Rattle.as2_text.proofs.receipt_ask.ReceiptAsk.read.Goals as goal

pub returns-clause-found : goal.returns-clause-found
returns-clause-found c = shown_found c.args.head.now c.read.result c.read.ensures

pub returns-clause-only : goal.returns-clause-only
returns-clause-only c request a = c.read.ensures ∙ asks_again c.args.head.now request a
