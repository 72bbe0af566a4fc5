-- Posted documents: recorded once, answered, and their receipts queued (RFC 4130, sections 5 to 7).
use Rattle.std.specs.Prelude.{ℕ, ◌+◌, Bool, true, false, ◌&&◌, [], ◌∷◌, ◌++◌, Option, Some, None, nat_le, if◌then◌else◌}
use Rattle.as2_exchange.specs.Agreement.{Agreements}
use Rattle.as2_exchange.specs.Detail.{Attempt, Idle, Last, Used, ReceiptStage, Unasked, Pending, Sent}
use Rattle.as2_exchange.specs.Readings.{ReceiptDelivery, NoReceipt, Sync, Async, ReceiptOut, is_processed, is_async, receipt_bytes}
use Rattle.as2_exchange.specs.State.{Posted, InEntry, State, origin_of, end_of_numbers, received_as, change_received}
use Rattle.as2_exchange.specs.Events.{IdUsedBefore, NotProcessed, Nothing, Report, Answer, Http}
use Rattle.as2_exchange.specs.Lines.{http, refusal}
use Rattle.as2_exchange.specs.Posts.{repeats}

-- the receipt for the entry of this number
abbrev pub receipt_out : Agreements → ℕ → Posted → ReceiptOut
receipt_out A n p = record { number = n; domain = A.domain; from = p.receiver; to = p.sender; original_id = p.id; outcome = p.outcome; mic = p.mic }

-- the answer to a recorded post
unfoldable pub answer_to : Agreements → ℕ → Posted → Answer
answer_to A n p = by p.how
  where
    by : ReceiptDelivery → Answer
    by Sync = http 200 (Report (receipt_out A n p) (receipt_bytes (receipt_out A n p)))
    by (Async url) = http 202 Nothing
    by NoReceipt = if is_processed p.outcome then http 200 Nothing else Http (refusal (NotProcessed p.outcome))

-- the receipt is sent, or on or past its last try
abbrev pub is_done_with : ReceiptStage → Attempt → Bool
is_done_with Sent attempt = true
is_done_with receipt_stage Last = true
is_done_with receipt_stage Used = true
is_done_with receipt_stage attempt = false

-- the receipt is to be sent from this moment on, with all tries left
abbrev pub requeued_receipt : ℕ → InEntry → InEntry
requeued_receipt m e = record e { receipt_stage = Pending; tries = 0; attempt = Idle; due = Some m }

-- where it is asynchronous, and done with, a repeat of the document requeues it
abbrev pub requeued_by_repeat : ℕ → InEntry → InEntry
requeued_by_repeat m e = if is_async e.posted.how && is_done_with e.receipt_stage e.attempt then requeued_receipt m e else e

-- the entry of a post that is new
abbrev pub first_entry : ℕ → ℕ → Posted → InEntry
first_entry n m p = record { number = n; posted = p; moment = m; receipt_stage = receipt_stage_of p.how; tries = 0; attempt = Idle; due = if is_async p.how then Some m else None }
  where
    receipt_stage_of : ReceiptDelivery → ReceiptStage
    receipt_stage_of NoReceipt = Unasked
    receipt_stage_of Sync = Sent
    receipt_stage_of (Async url) = Pending

-- a posted document is a repeat, a clash or new; no number is left: nothing
abbrev pub record_given : Agreements → State → ℕ → Posted → Option InEntry → Option (Answer × State)
record_given A s m p (Some e) =
    if repeats (origin_of s.version) e.number e.posted p then Some (answer_to A e.number e.posted, change_received s e.number (requeued_by_repeat m))
    else Some (Http (refusal IdUsedBefore), s)
record_given A s m p None =
    if nat_le end_of_numbers s.next_in then None
    else Some (answer_to A s.next_in p, record s { inbox = s.inbox ++ first_entry s.next_in m p ∷ []; next_in = s.next_in + 1 })

-- a posted document, by the entry that has its key
unfoldable pub record_post : Agreements → State → ℕ → Posted → Option (Answer × State)
record_post A s m p = record_given A s m p (received_as s p)
