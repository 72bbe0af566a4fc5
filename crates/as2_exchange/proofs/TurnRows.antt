-- Worked rows of each refusal of an event, and of each turn that a document or a receipt takes.
-- The plan: one document or one receipt in a known state (`standing`, `entry_asked`), one event, and what it is answered and leaves; first
-- what refuses a Begin or an Outcome, then what each leaves, the Tick, and the receipts that we send.
use Rattle.std.proofs.Common.{◌≡◌, ℕ, true, false, [], ◌∷◌, Option, Some, None, refl}
use Rattle.std.specs.Prelude.{nat_le, codes}
use Rattle.as2_names.specs.Blanks.{without_blanks}
use Rattle.as2_names.specs.Identifiers.{without_brackets as bare}
use Rattle.as2_media.specs.Values.{between_quotes}
use Rattle.as2_exchange.specs.Agreement.{Text, Agreements}
use Rattle.as2_exchange.specs.Detail.{Detail, New, Sending, Awaiting, Retry, Processed, NoReceiptAsked, TriesUsed}
use Rattle.as2_exchange.specs.Detail.{Overdue, Attempt, Idle, Running, Last, Used, ReceiptStage, Unasked, Pending, Sent}
use Rattle.as2_exchange.specs.Readings.{ReceiptDelivery, NoReceipt, Sync, Async, document_job}
use Rattle.as2_exchange.specs.Readings.{receipt_job as receipt_sent, names_of, type_of, report_in, named_by, value_of}
use Rattle.as2_exchange.specs.State.{AllDigests, LaterVersion, State, InEntry, OutEntry, Evidence}
use Rattle.as2_exchange.specs.Events.{Post, Begin, Outcome, Answer, Nothing, NoAnswer, Reply, Job, Settled, Delivered, TryFailed, AlreadySettled, Submitted}
use Rattle.as2_exchange.specs.Events.{Ticked, Refused, UnknownOrganization, UnknownPartner, NoSuchNumber, NotDue, AllSettled, NoOpenTry, TriesUsedUp, TryAnswer}
use Rattle.as2_exchange.specs.Documents.{begun_document, closed_document, submit, tick}
use Rattle.as2_exchange.specs.Lines.{http}
use Rattle.as2_exchange.specs.OwedReceipts.{begun_receipt, closed_receipt}
use Rattle.as2_exchange.specs.Receipts.{is_success}
use Rattle.as2_exchange.specs.Recording.{answer_to, record_post, requeued_by_repeat, first_entry, receipt_out}
use Rattle.as2_exchange.specs.Step.{step}
use Rattle.as2_exchange.proofs.Fixture.{buyer, fixture, abc, receipt_head, receipt_body, q, q_for_2, q_type_text, q_names, q_typed}
use Rattle.as2_exchange.proofs.Fixture.{q_read, q_says, document_of, post_head, return_head, p1_from_depot, m1, sha1_text}
use Rattle.as2_exchange.proofs.Rows.{play, submit_to, job_1, no_head, return_address, due_1, new_store}

-- ---- a Begin and an Outcome: which refusal is first

-- the fixture without its organization, and without its partners
abbrev pub no_organization : Agreements
no_organization = record fixture { organizations = []; partners = [] }

abbrev pub no_partner : Agreements
no_partner = record fixture { partners = [] }

abbrev pub some_evidence : Evidence
some_evidence = record { moment = 1000; content_type = q_type_text; body = q }

-- a document from Supplier to Buyer; it was begun where it was tried
abbrev pub standing : ℕ → Attempt → Option ℕ → Detail → Option Evidence → OutEntry
standing tries attempt due detail evidence = record {
  number = 1;
  organization = codes "Supplier";
  partner = codes "Buyer";
  id = codes "<out-1@station.example>";
  content = abc;
  moment = 1000;
  begun = nat_le 1 tries;
  tries = tries;
  attempt = attempt;
  due = due;
  detail = detail;
  evidence = evidence;
}

-- a store with this document alone
abbrev pub with_document : OutEntry → State
with_document d = record { version = LaterVersion 0; inbox = []; outbox = d ∷ []; next_in = 1; next_out = 2 }

-- what a Begin of it at 1000 is answered
abbrev begin_answer : Agreements → OutEntry → Answer
begin_answer A d = (begun_document A 1000 d).0

-- a settled one whose tries are used, which waits, and is due later
abbrev settled_late : OutEntry
settled_late = standing 2 Idle (Some 2000) Overdue (Some some_evidence)

unknown_number_first : (step no_organization (with_document settled_late) (Begin 2 1000) ≡ Some (Refused NoSuchNumber, with_document settled_late))
    × (step no_organization (with_document settled_late) (Outcome 2 NoAnswer 1000) ≡ Some (Refused NoSuchNumber, with_document settled_late))
unknown_number_first = (refl, refl)

begin_refusals : (begin_answer no_organization settled_late ≡ Refused UnknownOrganization)
    × (begin_answer no_partner settled_late ≡ Refused UnknownPartner)
    × (begin_answer fixture settled_late ≡ Refused AllSettled)
    × (begin_answer fixture (standing 2 Idle (Some 2000) Overdue None) ≡ Refused TriesUsedUp)
    × (begin_answer fixture (standing 2 Last (Some 2000) Sending None) ≡ Refused TriesUsedUp)
    × (begin_answer fixture (standing 1 Idle None Overdue None) ≡ Refused NotDue)
    × (begin_answer fixture (standing 1 Idle (Some 900) Awaiting None) ≡ Refused NotDue)
    × (begin_answer fixture (standing 1 Idle None NoReceiptAsked None) ≡ Refused NotDue)
    × (begin_answer fixture (standing 1 Idle (Some 1001) Retry None) ≡ Refused NotDue)
    × (begin_answer fixture (standing 1 Idle (Some 1000) Retry None)
    ≡ Job (document_job fixture buyer (codes "Supplier") (codes "<out-1@station.example>") abc))
unfolding begun_document
begin_refusals = (refl, refl, refl, refl, refl, refl, refl, refl, refl, refl)

-- the first try, and the last one
begin_opens : ((begun_document fixture 1000 (standing 0 Idle (Some 1000) New None)).1 ≡ standing 1 Running (Some 1030) Sending None)
    × ((begun_document fixture 1000 (standing 1 Running (Some 1000) Sending None)).1 ≡ standing 2 Last (Some 1030) Sending None)
unfolding begun_document
begin_opens = (refl, refl)

-- what an Outcome without an answer is answered
abbrev outcome_answer : Agreements → OutEntry → Answer
outcome_answer A d = (closed_document A AllDigests NoAnswer 1000 d).0

outcome_refusals : (outcome_answer no_organization settled_late ≡ Refused UnknownOrganization)
    × (outcome_answer no_partner settled_late ≡ Refused UnknownPartner)
    × (outcome_answer fixture settled_late ≡ AlreadySettled)
    × (outcome_answer fixture (standing 2 Idle None Overdue None) ≡ Refused NoOpenTry)
unfolding closed_document
outcome_refusals = (refl, refl, refl, refl)

-- ---- an Outcome: what it leaves

-- the answer and the document after an Outcome at that moment
abbrev after_outcome : TryAnswer → ℕ → OutEntry → Answer × OutEntry
after_outcome got m d = closed_document fixture AllDigests got m d

-- an answer of that status, which brings a receipt under that name
abbrev brings : ℕ → Text → Text → TryAnswer
brings status from body = Reply status (receipt_head from) body

-- the first try is open, and the last one; a try is due again
abbrev first_open : OutEntry
first_open = standing 1 Running (Some 1030) Sending None

abbrev last_open : OutEntry
last_open = standing 2 Last (Some 1030) Sending None

abbrev due_again : ℕ → OutEntry
due_again m = standing 1 Idle (Some m) Retry None

-- a try that failed, and the last one
failures : ((after_outcome NoAnswer 1000 first_open).1 ≡ due_again 1030)
    × ((after_outcome NoAnswer 1000 last_open).1 ≡ standing 2 Idle None TriesUsed None)
    × ((after_outcome NoAnswer 1000 (standing 2 Last None TriesUsed None)).1 ≡ standing 2 Idle None TriesUsed None)
unfolding closed_document
failures = (refl, refl, refl)

-- 200 to 299 are the statuses of success
statuses_of_success : (is_success 199 ≡ false) × (is_success 200 ≡ true) × (is_success 299 ≡ true) × (is_success 300 ≡ false)
statuses_of_success = (refl, refl, refl, refl)

-- whatever an answer with another status brings, the try failed
other_statuses : (after_outcome (brings 404 (codes "Buyer") q) 1000 first_open ≡ (TryFailed, due_again 1030))
    × (after_outcome (brings 300 (codes "Buyer") q) 1000 first_open ≡ (TryFailed, due_again 1030))
unfolding closed_document
other_statuses = (refl, refl)

-- a receipt in the answer settles the document: the try is closed, nothing is waited for, and the receipt is kept as it came
settled_by_answer : after_outcome (brings 299 (codes "Buyer") q) 1001 first_open
    ≡ (Settled Processed, standing 1 Idle None Processed (Some (record { moment = 1001; content_type = q_type_text; body = q })))
unfolding closed_document named_by value_of bare
settled_by_answer = rw (q_names, q_typed, q_read, q_says) refl

-- a receipt under another partner's name, one for another document, and one whose sender is given twice settle nothing; each
-- is still an answer of success
foreign_answers : (after_outcome (brings 200 (codes "Depot") q) 1001 first_open ≡ (TryFailed, due_again 1031))
    × (after_outcome (brings 200 (codes "Buyer") q_for_2) 1001 first_open ≡ (TryFailed, due_again 1031))
    × (after_outcome (Reply 200 ((codes "as2-from", codes "Depot") ∷ receipt_head (codes "Depot")) q) 1001 (record first_open { partner = codes "Depot" })
    ≡ (Delivered, record (standing 1 Idle (Some 1061) Awaiting None) { partner = codes "Depot" }))
unfolding closed_document receipt_head receipt_body q q_for_2 names_of type_of report_in named_by value_of without_blanks between_quotes bare
foreign_answers = (refl, refl, refl)

-- a receipt in the Outcome of a try that is closed is none
late_outcome : play due_1 new_store (submit_to buyer ∷ Begin 1 1000 ∷ Outcome 1 NoAnswer 1000 ∷ Outcome 1 (brings 200 (codes "Buyer") q) 1001 ∷ [])
    ≡ Some (Submitted 1 ∷ job_1 buyer ∷ TryFailed ∷ Refused NoOpenTry ∷ [], Some (Retry, Some 1030))
unfolding play submit begun_document closed_document
late_outcome = refl

-- an answer of success without a receipt, by what is agreed with the partner
abbrev delivery_to : Text → OutEntry → OutEntry
delivery_to partner d = (after_outcome (Reply 200 no_head []) 1000 (record d { partner = partner })).1

deliveries : (delivery_to (codes "Depot") first_open ≡ record (standing 1 Idle (Some 1060) Awaiting None) { partner = codes "Depot" })
    × (delivery_to (codes "A \"B\" \\ C") first_open
    ≡ record (standing 1 Idle None NoReceiptAsked None) { partner = codes "A \"B\" \\ C" })
    × (delivery_to (codes "Buyer") first_open ≡ due_again 1030)
    × (delivery_to (codes "Buyer") last_open ≡ standing 2 Idle None TriesUsed None)
unfolding closed_document names_of
deliveries = (refl, refl, refl, refl)

-- ---- a Tick

-- one document that awaits its receipt, one whose last try is open, and those that no Tick moves
abbrev waiting_state : State
waiting_state = record {
  version = LaterVersion 0;
  inbox = [];
  outbox =
      standing 1 Idle (Some 1060) Awaiting None
      ∷ standing 2 Last (Some 1060) Sending None
      ∷ standing 1 Running (Some 1030) Sending None
      ∷ standing 1 Idle (Some 1030) Retry None
      ∷ standing 0 Idle (Some 1000) New None
      ∷ standing 2 Last None TriesUsed None
      ∷ [];
  next_in = 1;
  next_out = 7;
}

-- both kinds expire at the moment at which they are due, and not a second before
both_expire : (tick 1059 waiting_state ≡ (Ticked 0, waiting_state))
    × (tick 1060 waiting_state ≡ (
      Ticked 2,
      record waiting_state {
        outbox =
            standing 1 Idle None Overdue None
            ∷ standing 2 Last None TriesUsed None
            ∷ standing 1 Running (Some 1030) Sending None
            ∷ standing 1 Idle (Some 1030) Retry None
            ∷ standing 0 Idle (Some 1000) New None
            ∷ standing 2 Last None TriesUsed None
            ∷ [];
      },
    ))
unfolding tick
both_expire = (refl, refl)

-- ---- receipts that we send

-- the entry of a post from Depot
abbrev entry_asked : ReceiptDelivery → ReceiptStage → ℕ → Attempt → Option ℕ → InEntry
entry_asked how receipt_stage tries attempt due = record {
  number = 1;
  posted = document_of (codes "Depot") m1 abc how sha1_text;
  moment = 1000;
  receipt_stage = receipt_stage;
  tries = tries;
  attempt = attempt;
  due = due;
}

abbrev later : ReceiptDelivery
later = Async return_address

-- what a post that is new is kept as
first_kept : (first_entry 1 1000 (document_of (codes "Depot") m1 abc later sha1_text) ≡ entry_asked later Pending 0 Idle (Some 1000))
    × (first_entry 1 1000 (document_of (codes "Depot") m1 abc Sync sha1_text) ≡ entry_asked Sync Sent 0 Idle None)
    × (first_entry 1 1000 (document_of (codes "Depot") m1 abc NoReceipt sha1_text) ≡ entry_asked NoReceipt Unasked 0 Idle None)
first_kept = (refl, refl, refl)

-- the inbox then has that entry
first_added : play (λ s. s.inbox) new_store
    (Post (post_head (codes "Depot") m1 return_head) abc 1000 ∷ [])
    ≡ Some (http 202 Nothing ∷ [], entry_asked later Pending 0 Idle (Some 1000) ∷ [])
unfolding play record_post answer_to value_of bare
first_added = rw p1_from_depot refl

-- a repeat queues a receipt again that was sent, or is on or past its last try
queued_by_repeat : (requeued_by_repeat 2000 (entry_asked later Sent 1 Idle None) ≡ entry_asked later Pending 0 Idle (Some 2000))
    × (requeued_by_repeat 2000 (entry_asked later Pending 2 Last None) ≡ entry_asked later Pending 0 Idle (Some 2000))
    × (requeued_by_repeat 2000 (entry_asked later Pending 2 Used None) ≡ entry_asked later Pending 0 Idle (Some 2000))
queued_by_repeat = (refl, refl, refl)

-- and leaves one that is still tried, or wasn't asked for later
left_by_repeat : (requeued_by_repeat 2000 (entry_asked later Pending 1 Idle (Some 1030)) ≡ entry_asked later Pending 1 Idle (Some 1030))
    × (requeued_by_repeat 2000 (entry_asked later Pending 1 Running (Some 1030)) ≡ entry_asked later Pending 1 Running (Some 1030))
    × (requeued_by_repeat 2000 (entry_asked Sync Sent 0 Idle None) ≡ entry_asked Sync Sent 0 Idle None)
    × (requeued_by_repeat 2000 (entry_asked NoReceipt Unasked 0 Idle None) ≡ entry_asked NoReceipt Unasked 0 Idle None)
left_by_repeat = (refl, refl, refl, refl)

-- what a BeginMdn at 1000 is answered
abbrev begin_receipt_answer : Agreements → InEntry → Answer
begin_receipt_answer A e = (begun_receipt A 1000 e).0

-- one that is sent, whose tries are used, and which is due later
abbrev sent_late : InEntry
sent_late = entry_asked later Sent 2 Idle (Some 2000)

begin_receipt_refusals : (begin_receipt_answer no_organization sent_late ≡ Refused UnknownOrganization)
    × (begin_receipt_answer no_partner sent_late ≡ Refused UnknownPartner)
    × (begin_receipt_answer fixture sent_late ≡ Refused AllSettled)
    × (begin_receipt_answer fixture (entry_asked NoReceipt Unasked 0 Idle None) ≡ Refused AllSettled)
    × (begin_receipt_answer fixture (entry_asked later Pending 2 Used (Some 2000)) ≡ Refused TriesUsedUp)
    × (begin_receipt_answer fixture (entry_asked later Pending 2 Last None) ≡ Refused TriesUsedUp)
    × (begin_receipt_answer fixture (entry_asked later Pending 1 Idle (Some 1001)) ≡ Refused NotDue)
    × (begin_receipt_answer fixture (entry_asked later Pending 1 Running (Some 1000))
    ≡ Job (receipt_sent later (receipt_out fixture 1 (document_of (codes "Depot") m1 abc later sha1_text))))
unfolding begun_receipt
begin_receipt_refusals = (refl, refl, refl, refl, refl, refl, refl, refl)

begin_receipt_opens : ((begun_receipt fixture 1000 (entry_asked later Pending 0 Idle (Some 1000))).1 ≡ entry_asked later Pending 1 Running (Some 1030))
    × ((begun_receipt fixture 1000 (entry_asked later Pending 1 Running (Some 1000))).1 ≡ entry_asked later Pending 2 Last None)
unfolding begun_receipt
begin_receipt_opens = (refl, refl)

-- what an OutcomeMdn without an answer is answered
abbrev outcome_receipt_answer : Agreements → InEntry → Answer
outcome_receipt_answer A e = (closed_receipt A NoAnswer 1000 e).0

outcome_receipt_refusals : (outcome_receipt_answer no_organization sent_late ≡ Refused UnknownOrganization)
    × (outcome_receipt_answer no_partner sent_late ≡ Refused UnknownPartner)
    × (outcome_receipt_answer fixture sent_late ≡ AlreadySettled)
    × (outcome_receipt_answer fixture (entry_asked NoReceipt Unasked 0 Idle None) ≡ AlreadySettled)
    × (outcome_receipt_answer fixture (entry_asked later Pending 1 Idle (Some 1030)) ≡ Refused NoOpenTry)
    × (outcome_receipt_answer fixture (entry_asked later Pending 2 Used None) ≡ Refused NoOpenTry)
unfolding closed_receipt
outcome_receipt_refusals = (refl, refl, refl, refl, refl, refl)

-- a receipt arrived, or its try failed, the last one too
receipt_outcomes : (closed_receipt fixture (Reply 204 no_head []) 1001 (entry_asked later Pending 1 Running (Some 1030))
    ≡ (Delivered, entry_asked later Sent 1 Idle None))
    × (closed_receipt fixture (Reply 200 no_head []) 1001 (entry_asked later Pending 2 Last None) ≡ (Delivered, entry_asked later Sent 2 Idle None))
    × (closed_receipt fixture (Reply 302 no_head []) 1001 (entry_asked later Pending 1 Running (Some 1030))
    ≡ (TryFailed, entry_asked later Pending 1 Idle (Some 1031)))
    × (closed_receipt fixture NoAnswer 1001 (entry_asked later Pending 2 Last None) ≡ (TryFailed, entry_asked later Pending 2 Used None))
unfolding closed_receipt
receipt_outcomes = (refl, refl, refl, refl)
