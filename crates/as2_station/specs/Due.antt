-- What is to be sent next behind what was looked at, and where it goes.
use Rattle.std.specs.Prelude.{ℕ, Option, Some, None, option_map}
use Rattle.std.specs.Option.{option_map_or}
use Rattle.as2_exchange.specs.Agreement.{Agreements, Text, partner_of}
use Rattle.as2_exchange.specs.Due.{due_documents, due_receipts, least, next_of}
use Rattle.as2_exchange.specs.State.{State, document, received_entry}
use Rattle.as2_exchange.specs.declared.inbox.ReceiptDelivery.{ReceiptDelivery}
use Rattle.as2_exchange.specs.declared.inbox.ReceiptDelivery.TheVariants.{Async}
use Rattle.as2_exchange.specs.declared.next.Next.{Next}
use Rattle.as2_exchange.specs.declared.outbox.OutEntry.{OutEntry}
use Rattle.as2_exchange.specs.declared.next.Next.TheVariants.{Receipt, Document}
use Rattle.as2_records.specs.Due.{numbers_behind}

-- the due document of the least number behind that one
abbrev pub document_from : State → ℕ → Option ℕ → Option Next
document_from s m last = option_map Document (least (numbers_behind last (due_documents s m)))

-- the due receipt of the least number behind that one, else the due document of the least number
abbrev pub next_from : State → ℕ → Option ℕ → Option Next
next_from s m last = next_of (least (numbers_behind last (due_receipts s m))) (least (due_documents s m))

-- What is to be sent next behind what was looked at last: receipts come before documents, and each in order of number. Where nothing was looked
-- at it is what is to be sent next.
abbrev pub next_behind : State → ℕ → Option Next → Option Next
next_behind s m None = next_from s m None
next_behind s m (Some (Receipt last)) = next_from s m (Some last)
next_behind s m (Some (Document last)) = document_from s m (Some last)

-- the address at which a receipt is asked for
abbrev pub asked_at : ReceiptDelivery → Option Text
asked_at (Async address) = Some address
asked_at other = None

-- the address of the document's partner, where it is agreed
abbrev pub partner_address : Agreements → OutEntry → Option Text
partner_address A d = option_map (λ p. p.url) (partner_of A d.partner)

-- the address that a request for it goes to
abbrev pub destination : Agreements → State → Next → Option Text
destination A s (Receipt n) = option_map_or (λ e. asked_at e.posted.how) (received_entry s n) None
destination A s (Document n) = option_map_or (partner_address A) (document s n) None
