-- Words for values of the records.
use Rattle.std.specs.Prelude.{codes}
use Rattle.as2_exchange.specs.Agreement.{Text}
use Rattle.as2_exchange.specs.declared.inbox.ReceiptStage.{ReceiptStage}
use Rattle.as2_exchange.specs.declared.inbox.ReceiptStage.TheVariants.{Unasked, Pending, Sent}
use Rattle.as2_audit.specs.declared.findings.Mailbox.{Mailbox}
use Rattle.as2_audit.specs.declared.findings.Mailbox.TheVariants.{Inbox, Outbox}

-- which box an entry stands in
abbrev pub box_word : Mailbox → Text
box_word Inbox = codes "in"
box_word Outbox = codes "out"

-- no receipt asked, pending or sent
abbrev pub receipt_word : ReceiptStage → Text
receipt_word Unasked = codes "none"
receipt_word Pending = codes "pending"
receipt_word Sent = codes "sent"
