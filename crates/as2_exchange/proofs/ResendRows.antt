-- Worked rows of documents that are sent anew, computed with the machine from the texts of the fixture.
use Rattle.std.proofs.Common.{◌≡◌, ℕ, Bool, true, List, [], ◌∷◌, ◌++◌, Option, Some, None, refl, ap}
use Rattle.std.specs.Prelude.{codes, option_map}
use Rattle.std.specs.Fmt.{digits}
use Rattle.as2_names.specs.Identifiers.{without_brackets as bare}
use Rattle.as2_exchange.specs.Detail.{Detail, New, Sending, Retry, Awaiting, Processed, MicDiffers, NoReceiptAsked, TriesUsed, Overdue, Attempt, Idle, Running}
use Rattle.as2_exchange.specs.Readings.{named_by, value_of, out_id}
use Rattle.as2_exchange.specs.State.{State, OutEntry, document}
use Rattle.as2_exchange.specs.Events.{Event, Begin, Outcome, Resend, Tick, Answer, Nothing, Words, NoSuchMessage, Submitted}
use Rattle.as2_exchange.specs.Events.{Settled, Delivered, TryFailed, Resent, Ticked, Refused, NotDue, AllSettled}
use Rattle.as2_exchange.specs.Events.{NoOpenTry, NoSuchNumber, UnknownOrganization, UnknownPartner, NoAnswer, Reply}
use Rattle.as2_exchange.specs.Documents.{begun_document, closed_document, resent_document, submit, tick, settle}
use Rattle.as2_exchange.specs.Lines.{http}
use Rattle.as2_exchange.specs.Due.{next}
use Rattle.as2_exchange.specs.declared.next.Next.{Next}
use Rattle.as2_exchange.specs.declared.next.Next.TheVariants.{Document}
use Rattle.as2_exchange.proofs.Fixture.{buyer, depot, receipt_head, receipt_body, q, q_for_2, q_in_lf, q_names, q_typed, q_read, q_says, fixture, receipts_read}
use Rattle.as2_exchange.proofs.Rows.{play, submit_to, job_1, due_1, no_head, no_names, new_store, receipt_posted}
use Rattle.as2_exchange.proofs.TurnRows.{standing, with_document, no_organization, no_partner, some_evidence}

-- how document 1 stands: its detail, tries, attempt and mark
abbrev stand_1 : State → Option (Detail × ℕ × Attempt × Bool)
stand_1 s = option_map (λ (d : OutEntry). (d.detail, d.tries, d.attempt, d.begun)) (document s 1)

-- how it stands, and what is sent next at moment 2000
abbrev next_1 : State → Option (Detail × ℕ × Attempt × Bool) × Option Next
next_1 s = (stand_1 s, next s 2000)

-- both tries to Buyer have failed
abbrev both_fail : List Event
both_fail = submit_to buyer ∷ Begin 1 1000 ∷ Outcome 1 NoAnswer 1000 ∷ Begin 1 1030 ∷ Outcome 1 (Reply 200 no_head []) 1030 ∷ []

abbrev both_failed : List Answer
both_failed = Submitted 1 ∷ job_1 buyer ∷ TryFailed ∷ job_1 buyer ∷ TryFailed ∷ []

used_up : play next_1 new_store both_fail ≡ Some (both_failed, (Some (TriesUsed, 2, Idle, true), None))
unfolding play submit begun_document closed_document
used_up = rw no_names refl

-- it is to be sent anew, from that moment on and with all tries left
sent_anew : play next_1 new_store (both_fail ++ Resend 1 2000 ∷ []) ≡ Some (both_failed ++ Resent ∷ [], (Some (New, 0, Idle, true), Some (Document 1)))
unfolding play submit begun_document closed_document resent_document
sent_anew = rw no_names refl

-- the document as the Resend leaves it: new, and still begun
abbrev anew : OutEntry
anew = record (standing 0 Idle (Some 2000) New None) { begun = true }

state_anew : play (λ s. s) new_store (both_fail ++ Resend 1 2000 ∷ []) ≡ Some (both_failed ++ Resent ∷ [], with_document anew)
unfolding play submit begun_document closed_document resent_document out_id digits
state_anew = rw no_names refl

-- a second Resend has nothing to do; the same request is sent again, and settles; then nothing is to be sent anew
settled_anew : play stand_1 (with_document anew)
    (Resend 1 2000 ∷ Begin 1 2000 ∷ [])
    ≡ Some (Refused NotDue ∷ job_1 buyer ∷ [], Some (Sending, 1, Running, true))
    × (play stand_1 (with_document anew) (Begin 1 2000 ∷ Outcome 1 (Reply 200 (receipt_head (codes "Buyer")) q) 2000 ∷ Resend 1 2000 ∷ [])
    ≡ Some (job_1 buyer ∷ Settled Processed ∷ Refused AllSettled ∷ [], Some (Processed, 1, Idle, true)))
unfolding play begun_document closed_document resent_document named_by value_of out_id digits bare
settled_anew = (refl, rw (q_names, q_typed, q_read, q_says) refl)

-- a receipt by post settles it before a new try begins, and then nothing is due
posted_before_begin : play due_1 (with_document anew) (receipt_posted (codes "Buyer") q 2000 ∷ []) ≡ Some (http 200 Nothing ∷ [], Some (Processed, None))
    × (next (with_document (record anew { due = None; detail = Processed; evidence = Some some_evidence })) 2000 ≡ None)
unfolding play begun_document closed_document resent_document settle receipts_read receipt_head receipt_body q q_for_2 q_in_lf named_by value_of digits
posted_before_begin = (ap (λ (x : Detail). Some (http 200 Nothing ∷ [], Some (x, None))) q_says, refl)

-- one that was never begun takes no receipt
never_begun : play due_1 (with_document (standing 0 Idle (Some 2000) New None)) (receipt_posted (codes "Buyer") q 2000 ∷ [])
    ≡ Some (http 404 (Words NoSuchMessage) ∷ [], Some (New, Some 2000))
unfolding play begun_document closed_document resent_document settle receipts_read receipt_head receipt_body q q_for_2 q_in_lf named_by value_of digits
never_begun = refl

-- the outcome of a try before the Resend is of no open try
late_outcome : play stand_1 new_store
    (submit_to buyer ∷ Begin 1 1000 ∷ Begin 1 1030 ∷ Tick 1060 ∷ Resend 1 1061 ∷ Outcome 1 (Reply 200 (receipt_head (codes "Buyer")) q) 1061 ∷ [])
    ≡ Some (Submitted 1 ∷ job_1 buyer ∷ job_1 buyer ∷ Ticked 1 ∷ Resent ∷ Refused NoOpenTry ∷ [], Some (New, 0, Idle, true))
unfolding play submit begun_document closed_document resent_document tick
late_outcome = refl

-- one whose receipt is overdue
overdue_anew : play stand_1 new_store (submit_to depot ∷ Begin 1 1000 ∷ Outcome 1 (Reply 200 no_head []) 1000 ∷ Tick 1060 ∷ Resend 1 1061 ∷ [])
    ≡ Some (Submitted 1 ∷ job_1 depot ∷ Delivered ∷ Ticked 1 ∷ Resent ∷ [], Some (New, 0, Idle, true))
unfolding play submit begun_document closed_document resent_document tick
overdue_anew = rw no_names refl

-- what a Resend is refused for, the first that fits
resend_refusals : ((resent_document no_organization 1000 (standing 2 Idle None MicDiffers (Some some_evidence))).0 ≡ Refused UnknownOrganization)
    × ((resent_document no_partner 1000 (standing 2 Idle None MicDiffers (Some some_evidence))).0 ≡ Refused UnknownPartner)
    × ((resent_document fixture 1000 (standing 2 Idle None MicDiffers (Some some_evidence))).0 ≡ Refused AllSettled)
    × ((resent_document fixture 1000 (standing 1 Idle None Processed (Some some_evidence))).0 ≡ Refused AllSettled)
    × ((resent_document fixture 1000 (standing 1 Idle None NoReceiptAsked None)).0 ≡ Refused NotDue)
    × ((resent_document fixture 1000 (standing 0 Idle (Some 1000) New None)).0 ≡ Refused NotDue)
    × ((resent_document fixture 1000 (standing 1 Running (Some 1030) Sending None)).0 ≡ Refused NotDue)
    × ((resent_document fixture 1000 (standing 1 Idle (Some 1030) Retry None)).0 ≡ Refused NotDue)
    × ((resent_document fixture 1000 (standing 1 Idle (Some 1060) Awaiting None)).0 ≡ Refused NotDue)
    × ((resent_document fixture 1000 (standing 2 Idle None TriesUsed None)).0 ≡ Resent)
    × ((resent_document fixture 1000 (standing 1 Idle None Overdue None)).0 ≡ Resent)
unfolding resent_document
resend_refusals = (refl, refl, refl, refl, refl, refl, refl, refl, refl, refl, refl)

no_number : play stand_1 new_store (Resend 7 1000 ∷ []) ≡ Some (Refused NoSuchNumber ∷ [], None)
unfolding play
no_number = refl
