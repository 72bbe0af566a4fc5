-- What the answered events say of the receipt that is owed for a posted document, with no machine and no state.
use Rattle.std.specs.Prelude.{ℕ, ◌+◌, Bool, true, false, ◌&&◌, ◌||◌, List, [], ◌∷◌, ◌++◌, fold, Option, Some, None, option_map, option_and_then, is_some, ◌==◌, nat_le, if◌then◌else◌}
use Rattle.std.specs.List.{list_any, filter_map}
use Rattle.as2_exchange.specs.Agreement.{Agreements, Partner, partner_of}
use Rattle.as2_exchange.specs.Detail.{Attempt, Idle, Running, Last, Used, ReceiptStage, Unasked, Pending, Sent}
use Rattle.as2_exchange.specs.Readings.{ReceiptDelivery, NoReceipt, Sync, Async}
use Rattle.as2_exchange.specs.State.{Posted, InEntry, Version, known_digests, origin_of}
use Rattle.as2_exchange.specs.Events.{Event, Post, BeginReceipt, OutcomeReceipt, Answer, AnsweredEvent}
use Rattle.as2_exchange.specs.Posts.{PostReading, IsDocument, post_reading, repeats}
use Rattle.as2_exchange.specs.Receipts.{is_delivery}
use Rattle.as2_exchange.specs.History.{FoundAt, Fact, ATry, AnOutcome, is_job, try_in, tries, is_open, last_of, with_past}
use Rattle.as2_exchange.specs.Waiting.{TryWithOutcome, last_tried}

-- what an event is to the receipt: its document is posted, for the first time or again; or a try to send it begins or ends
pub data ReceiptFact : Type 0 where
  APost : (moment : ℕ) → ReceiptFact
  OfATry : Fact → ReceiptFact

-- a post of the document: the first one, and each repeat
abbrev pub post_of : Version → ℕ → Posted → ℕ → PostReading → Option ReceiptFact
post_of v n p m (IsDocument q) = if repeats (origin_of v) n p q then Some (APost m) else None
post_of v n p m other = None

-- A try of receipt n is a BeginReceipt of n that was answered by a Job.
abbrev pub receipt_fact_of : Agreements → ℕ → Posted → Version → Answer → Event → Option ReceiptFact
receipt_fact_of A n p v answer (Post head body m) = post_of v n p m (post_reading A (known_digests v) head body)
receipt_fact_of A n p v answer (BeginReceipt k m) = if k == n && is_job answer then Some (OfATry (ATry m)) else None
receipt_fact_of A n p v answer (OutcomeReceipt k got m) = if k == n then Some (OfATry (AnOutcome m (known_digests v) got)) else None
receipt_fact_of A n p v answer other = None

unfoldable pub receipt_fact : Agreements → ℕ → Posted → AnsweredEvent → Option ReceiptFact
receipt_fact A n p e = receipt_fact_of A n p e.version e.answer e.event

-- ---- its tries

-- the fact is an answer of success to the try that was open before it
abbrev pub delivers : List Fact → Fact → Bool
delivers past (AnOutcome m known got) = is_open past && is_delivery got
delivers past other = false

-- a try was answered by success
abbrev pub is_delivered : List Fact → Bool
is_delivered facts = list_any (λ (f : List Fact × Fact). delivers f.0 f.1) (with_past [] facts)

-- it was tried, and as often as is agreed
abbrev pub are_used : Partner → List Fact → Bool
are_used p facts = is_some (last_of try_in facts) && nat_le p.max_tries (tries facts)

-- The moment at which it was queued last, and the facts of its tries since, after one more fact. A post queues it where it
-- wasn't queued before, or was delivered or tried as often as is agreed since.
abbrev pub queued_by : Partner → Option (FoundAt ℕ Fact) → ReceiptFact → Option (FoundAt ℕ Fact)
queued_by p None (APost m) = Some (record { it = m; after = [] })
queued_by p None (OfATry f) = None
queued_by p (Some since) (APost m) = Some (if is_delivered since.after || are_used p since.after then record { it = m; after = [] } else since)
queued_by p (Some since) (OfATry f) = Some (record { it = since.it; after = since.after ++ f ∷ [] })

-- the same after all facts; nothing, where it never was queued
unfoldable pub since_queued : Partner → List ReceiptFact → Option (FoundAt ℕ Fact)
since_queued p facts = fold (queued_by p) None facts

-- ---- the history

pub record ReceiptHistory : Type 0 where
  pub receipt_stage : ReceiptStage
  pub tries : ℕ
  pub attempt : Attempt
  pub due : Option ℕ

-- what stands of a receipt
abbrev pub receipt_told : InEntry → ReceiptHistory
receipt_told e = record { receipt_stage = e.receipt_stage; tries = e.tries; attempt = e.attempt; due = e.due }

-- one that isn't sent later waits for nothing
abbrev pub at_rest : ReceiptStage → ReceiptHistory
at_rest receipt_stage = record { receipt_stage = receipt_stage; tries = 0; attempt = Idle; due = None }

-- one that is sent later is sent once it was delivered
abbrev pub receipt_after : Bool → ReceiptStage
receipt_after delivered = if delivered then Sent else Pending

-- by whether it was delivered, whether the tries are as many as agreed, and the last try: open, or closed by its Outcome
abbrev pub receipt_attempt : Bool → Bool → Option TryWithOutcome → Attempt
receipt_attempt true used t = Idle
receipt_attempt false used None = Idle
receipt_attempt false used (Some (t, None)) = if used then Last else Running
receipt_attempt false used (Some (t, Some o)) = if used then Used else Idle

-- the first try is due when it is queued, each other one after the one before, or after the Outcome of that
abbrev pub receipt_due : Partner → Bool → Bool → ℕ → Option TryWithOutcome → Option ℕ
receipt_due p true used queued t = None
receipt_due p false used queued None = Some queued
receipt_due p false used queued (Some (t, None)) = if used then None else Some (t.it + p.retry_seconds)
receipt_due p false used queued (Some (t, Some o)) = if used then None else Some (o.it.0 + p.retry_seconds)

-- what stands of one that is sent later
abbrev pub sent_later : Partner → FoundAt ℕ Fact → ReceiptHistory
sent_later p since =
    let delivered = is_delivered since.after in
    let used = nat_le p.max_tries (tries since.after) in
    record {
      receipt_stage = receipt_after delivered;
      tries = tries since.after;
      attempt = receipt_attempt delivered used (last_tried since.after);
      due = receipt_due p delivered used since.it (last_tried since.after);
    }

-- by how it was asked for: not at all, in the answer to the post, or later
abbrev pub history_by_how : ReceiptDelivery → Partner → Option (FoundAt ℕ Fact) → Option ReceiptHistory
history_by_how NoReceipt p since = Some (at_rest Unasked)
history_by_how Sync p since = Some (at_rest Sent)
history_by_how (Async url) p since = option_map (sent_later p) since

-- What the answered events say of receipt n, which is for this document.
abbrev pub receipt_history : Agreements → List AnsweredEvent → ℕ → Posted → Option ReceiptHistory
receipt_history A done n p = option_and_then (λ partner. history_by_how p.how partner (since_queued partner (filter_map (receipt_fact A n p) done))) (partner_of A p.sender)
