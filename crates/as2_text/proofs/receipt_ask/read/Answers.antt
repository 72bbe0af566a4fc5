use Rattle.std.proofs.Common.{◌∙◌}
use Rattle.as2_text.proofs.ReceiptRequests.{asked_told}
use Rattle.as2_text.proofs.receipt_ask.read.Goals as goal

pub returns-in-One : goal.returns-in-One
returns-in-One c = c.asked.ensures ∙ asked_told c.value.result _ c.args.head.now c.value.ensures.tells c.in-One.is
