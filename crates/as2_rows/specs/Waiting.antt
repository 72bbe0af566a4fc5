-- Which entries wait for something, and for what.
use Rattle.std.specs.Prelude.{ℕ, List, [], ◌∷◌, Option, Some, None, option_map}
use Rattle.std.specs.List.{filter_map}
use Rattle.sqlite_value.specs.Order.{Row}
use Rattle.as2_mdn.specs.declared.detail.Detail.{Detail}
use Rattle.as2_mdn.specs.declared.detail.Detail.TheVariants.{New, Sending, Awaiting, Retry}
use Rattle.as2_exchange.specs.declared.attempt.Attempt.{Attempt}
use Rattle.as2_exchange.specs.declared.attempt.Attempt.TheVariants.{Idle, Running, Last}
use Rattle.as2_exchange.specs.declared.inbox.ReceiptStage.{ReceiptStage}
use Rattle.as2_exchange.specs.declared.inbox.ReceiptStage.TheVariants.{Pending}
use Rattle.as2_exchange.specs.declared.inbox.InEntry.{InEntry}
use Rattle.as2_exchange.specs.declared.outbox.OutEntry.{OutEntry}
use Rattle.as2_rows.specs.Rows.{whole, whole_or_null}
use Rattle.as2_rows.specs.declared.waiting.Wait.{Wait}
use Rattle.as2_rows.specs.declared.waiting.Wait.TheVariants.{ToSend, ToSendReceipt, ToHear, ToEnd}

-- what waits: its kind, the number of the entry, and from when on it is due
pub record WaitingRow : Type 0 where
  pub kind : ℕ
  pub number : ℕ
  pub due : Option ℕ

-- a document that is to be sent: 1
abbrev pub to_send : ℕ
to_send = 1

-- a receipt that is to be sent: 2
abbrev pub to_send_receipt : ℕ
to_send_receipt = 2

-- a document whose receipt is awaited: 3
abbrev pub to_hear : ℕ
to_hear = 3

-- a document whose last try is open: 4
abbrev pub to_end : ℕ
to_end = 4

-- the code of what an entry waits for
abbrev pub kind_code : Wait → ℕ
kind_code ToSend = to_send
kind_code ToSendReceipt = to_send_receipt
kind_code ToHear = to_hear
kind_code ToEnd = to_end

-- what a document waits for
abbrev pub out_kind : Detail → Attempt → Option ℕ
out_kind New attempt = Some to_send
out_kind Retry attempt = Some to_send
out_kind Sending Running = Some to_send
out_kind Sending Last = Some to_end
out_kind Awaiting attempt = Some to_hear
out_kind detail attempt = None

-- what a received entry waits for
abbrev pub in_kind : ReceiptStage → Attempt → Option ℕ
in_kind Pending Idle = Some to_send_receipt
in_kind Pending Running = Some to_send_receipt
in_kind receipt_stage attempt = None

abbrev pub out_waiting : OutEntry → Option WaitingRow
out_waiting d = option_map (λ kind. record { kind = kind; number = d.number; due = d.due }) (out_kind d.detail d.attempt)

abbrev pub in_waiting : InEntry → Option WaitingRow
in_waiting e = option_map (λ kind. record { kind = kind; number = e.number; due = e.due }) (in_kind e.receipt_stage e.attempt)

-- all that waits in the inbox, and in the outbox, in order of the numbers
abbrev pub waiting_in : List InEntry → List WaitingRow
waiting_in inbox = filter_map in_waiting inbox

abbrev pub waiting_out : List OutEntry → List WaitingRow
waiting_out outbox = filter_map out_waiting outbox

-- as a query shows it: kind, number, due
abbrev pub waiting_shown : WaitingRow → Row
waiting_shown w = whole w.kind ∷ whole w.number ∷ whole_or_null w.due ∷ []
