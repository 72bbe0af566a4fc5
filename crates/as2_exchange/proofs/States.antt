-- Each step, and so each run, leads from a well formed state to a well formed one.
-- The plan: a document that is read from a post may be recorded (`reading_good`); a change of one box keeps it well formed, by `WellFormed`
-- and `Standing`; `step_formed` has a clause for each event, by the box that the event changes, and gets one more for a new event.
use Rattle.std.proofs.Common.{◌≡◌, ℕ, ◌<◌, Bool, true, false, not, [], ◌∷◌, Option, Some, None, refl, sym, ap, ◌∙◌, subst, arith}
use Rattle.std.specs.Prelude.{⊤, is_some, ◌==◌, if◌then◌else◌, ◌&&◌}
use Rattle.std.specs.List.{IsDistinct}
use Rattle.std.proofs.lemmas.Option.{same_Some}
use Rattle.as2_exchange.specs.Agreement.{Text, Agreements, is_organization, partner_of}
use Rattle.as2_exchange.specs.Readings.{Head, MediaType, ReceiptAsk, Outcome as WhatBecame, Processed, DecryptionFailed, DecompressionFailed}
use Rattle.as2_exchange.specs.Readings.{AuthenticationFailed, UnsupportedFormat, UnsupportedMicAlgorithms, is_processed}
use Rattle.as2_exchange.specs.Readings.{mic_for, is_report, names_of, version_fits, type_of, id_of, ask_of, report_in, named_by}
use Rattle.as2_exchange.specs.State.{Posted, InEntry, OutEntry, State, Digests, Version, known_digests, empty, end_of_numbers, document}
use Rattle.as2_exchange.specs.State.{document_named, received_entry, received_as, change_document, change_received, lasting_part, is_settled}
use Rattle.as2_exchange.specs.Events.{Event, Post, Submit, Begin, Outcome, Resend, BeginReceipt, OutcomeReceipt, Tick, Answer}
use Rattle.as2_exchange.specs.Events.{Line, BadNames, BadVersion, UnknownNames, BadType, UnreadableReceipt, BadId, BadAsk}
use Rattle.as2_exchange.specs.Posts.{ReceivedReceipt, PostReading, Refuses, IsReceipt, IsDocument, needs, report_posted, document_posted, post_reading}
use Rattle.as2_exchange.specs.Documents.{settle, settle_for, settled_document, submit, new_document, begun_document, closed_document, resent_document, tick}
use Rattle.as2_exchange.specs.OwedReceipts.{begun_receipt, closed_receipt}
use Rattle.as2_exchange.specs.Recording.{record_post, first_entry, requeued_by_repeat}
use Rattle.as2_exchange.specs.Step.{post, step, act_on, act_in}
use Rattle.as2_exchange.specs.Run.{Trace, Run, AnEvent, AMigration, Answered, Failed, migrated_state}
use Rattle.as2_exchange.specs.Invariants.{IsCounter, IsRecorded, IsWellFormed}
use Rattle.as2_exchange.proofs.Documents.{if_either}
use Rattle.as2_exchange.proofs.Submits.{document_taken, submit_either}
use Rattle.as2_exchange.proofs.Repeats.{RecordedOrSame, fresh, repeated, clash, post_cases, with_first}
use Rattle.as2_exchange.proofs.Repeats.{queued_lasting, receipt_begun_lasting, receipt_closed_lasting}
use Rattle.as2_exchange.proofs.WellFormed.{inbox_push, inbox_map, KeepsLasting, outbox_push, outbox_map, KeepsEntries, unsettled_entry}
use Rattle.as2_exchange.proofs.Standing.{settled_keeps, changed_keeps, passed_keeps, begun_keeps, closed_keeps, resent_keeps}

-- ---- a posted document has digest and MIC exactly where it is processed

mic_there : (known : Digests) (o : WhatBecame) (ask : ReceiptAsk) (content : Text) → is_some (mic_for known o ask content) ≡ is_processed o
unfolding mic_for
mic_there known Processed ask content = refl
mic_there known DecryptionFailed ask content = refl
mic_there known DecompressionFailed ask content = refl
mic_there known AuthenticationFailed ask content = refl
mic_there known UnsupportedFormat ask content = refl
mic_there known UnsupportedMicAlgorithms ask content = refl

-- what a post is read as
IsGood : PostReading → Type 0
IsGood (Refuses line) = ⊤
IsGood (IsReceipt r) = ⊤
IsGood (IsDocument p) = IsRecorded p

needs_good : {X : Type 0} (o : Option X) (line : Line) (rest : X → PostReading) → ((x : X) → IsGood (rest x)) → IsGood (needs o line rest)
unfolding IsGood
needs_good None line rest h = tt
needs_good (Some x) line rest h = h x

if_good : (b : Bool) (x y : PostReading) → IsGood x → IsGood y → IsGood (if b then x else y)
if_good true x y h g = h
if_good false x y h g = g

document_good : (known : Digests) (names : Text × Text) (type : MediaType × Text) (head : Head) (body : Text)
    → IsGood (document_posted known names type head body)
unfolding IsGood
document_good known names type head body =
    needs_good (id_of head) BadId _ (λ id. needs_good (ask_of head) BadAsk _ (λ ask. mic_there known _ ask body))

report_good : (known : Digests) (names : Text × Text) (type : MediaType × Text) (body : Text) → IsGood (report_posted known names type body)
unfolding IsGood
report_good known names type body = needs_good (report_in type.0 body) UnreadableReceipt _ (λ r. tt)

reading_good : (A : Agreements) (known : Digests) (head : Head) (body : Text) → IsGood (post_reading A known head body)
unfolding post_reading IsGood
reading_good A known head body =
    needs_good (names_of head) BadNames _ (λ names.
    if_good (not (version_fits head)) (Refuses BadVersion) _ tt
    (if_good (not (is_organization A names.1 && is_some (partner_of A names.0))) (Refuses UnknownNames) _ tt
    (needs_good (type_of head) BadType _ (λ type.
    if_good (is_report type.0) _ _ (report_good known names type body) (document_good known names type head body)))))

document_recorded : (r : PostReading) (p : Posted) → IsGood r → r ≡ IsDocument p → IsRecorded p
unfolding IsGood
document_recorded r p h is = subst IsGood is h

-- ---- acts on the two boxes

keeps_lasting : (f : InEntry → InEntry) → ((e : InEntry) → lasting_part (f e) ≡ lasting_part e) → KeepsLasting f
keeps_lasting f kept = record { number = λ e. ap (λ (x : ℕ × Posted). x.0) (kept e); posted = λ e. ap (λ (x : ℕ × Posted). x.1) (kept e) }

changed_lasting : (n : ℕ) (f : InEntry → InEntry) → ((e : InEntry) → lasting_part (f e) ≡ lasting_part e) → (e : InEntry)
    → lasting_part (if e.number == n then f e else e) ≡ lasting_part e
changed_lasting n f kept e = by (e.number == n)
  where
    by : (b : Bool) → lasting_part (if b then f e else e) ≡ lasting_part e
    by true = kept e
    by false = refl

received_formed : (A : Agreements) (s : State) (n : ℕ) (f : InEntry → InEntry) → ((e : InEntry) → lasting_part (f e) ≡ lasting_part e) → IsWellFormed A s
    → IsWellFormed A (change_received s n f)
received_formed A s n f kept h = record {
  received = inbox_map s.next_in s.inbox (λ e. if e.number == n then f e else e) (keeps_lasting _ (changed_lasting n f kept)) h.received;
  sent = h.sent;
}

document_formed : (A : Agreements) (s : State) (n : ℕ) (f : OutEntry → OutEntry) → KeepsEntries f → IsWellFormed A s
    → IsWellFormed A (change_document s n f)
document_formed A s n f kept h = record { received = h.received; sent = outbox_map A s.next_out s.outbox _ (changed_keeps n f kept) h.sent }

-- what an event leaves is well formed
abbrev LeftFormed : Agreements → Answer × State → Type 0
LeftFormed A y = IsWellFormed A y.1

acted_formed : (A : Agreements) (s : State) (n : ℕ) (act : OutEntry → Answer × OutEntry) (o : Option OutEntry) → KeepsEntries (λ d. (act d).1)
    → IsWellFormed A s → IsWellFormed A (act_on s n act o).1
acted_formed A s n act None kept h = h
acted_formed A s n act (Some d) kept h = document_formed A s n (λ d. (act d).1) kept h

acted_in_formed : (A : Agreements) (s : State) (n : ℕ) (act : InEntry → Answer × InEntry) (o : Option InEntry)
    → ((e : InEntry) → lasting_part (act e).1 ≡ lasting_part e) → IsWellFormed A s → IsWellFormed A (act_in s n act o).1
acted_in_formed A s n act None kept h = h
acted_in_formed A s n act (Some e) kept h = received_formed A s n (λ x. (act x).1) kept h

tick_formed : (A : Agreements) (m : ℕ) (s : State) → IsWellFormed A s → IsWellFormed A (tick m s).1
unfolding tick
tick_formed A m s h = record { received = h.received; sent = outbox_map A s.next_out s.outbox _ (passed_keeps m) h.sent }

settle_for_formed : (A : Agreements) (s : State) (m : ℕ) (r : ReceivedReceipt) (o : Option OutEntry) → IsWellFormed A s → IsWellFormed A (settle_for s m r o).1
settle_for_formed A s m r None h = h
settle_for_formed A s m r (Some d) h = if_either (IsWellFormed A) _ _ _ h (by (is_settled d))
  where
    by : (b : Bool) → IsWellFormed A (if b then s else change_document s d.number (settled_document m r))
    by true = h
    by false = document_formed A s d.number (settled_document m r) (settled_keeps m r) h

settle_formed : (A : Agreements) (s : State) (m : ℕ) (r : ReceivedReceipt) → IsWellFormed A s → IsWellFormed A (settle s m r).1
unfolding settle
settle_formed A s m r h = settle_for_formed A s m r (document_named s (named_by r.receipt)) h

-- ---- what is taken in

taken_formed : (A : Agreements) (s : State) (organization partner content : Text) (m : ℕ) → s.next_out < end_of_numbers → IsWellFormed A s
    → LeftFormed A (document_taken A s organization partner content m)
taken_formed A s organization partner content m small h = record {
  received = h.received;
  sent = outbox_push A s.next_out s.outbox new small refl refl (unsettled_entry _ refl refl (λ g. absurd (omega (arith, g)))) h.sent;
}
  where
    new : OutEntry
    new = new_document A s.next_out organization partner content m

submit_formed : (A : Agreements) (s : State) (organization partner content : Text) (m : ℕ) (y : Answer × State) → IsWellFormed A s
    → submit A s organization partner content m ≡ Some y → IsWellFormed A y.1
submit_formed A s organization partner content m y h =
    submit_either (LeftFormed A) A s organization partner content m y (λ r. h)
    (λ ours theirs small. taken_formed A s organization partner content m small h)

first_formed : (A : Agreements) (s : State) (m : ℕ) (p : Posted) → s.next_in < end_of_numbers → IsRecorded p → received_as s p ≡ None → IsWellFormed A s
    → IsWellFormed A (with_first s m p)
first_formed A s m p small good new h = record {
  received = inbox_push s.next_in s.inbox (first_entry s.next_in m p) small refl good new h.received;
  sent = h.sent;
}

left_formed : (A : Agreements) (s : State) (m : ℕ) (p : Posted) (o : Option InEntry) (y : Answer × State) → received_as s p ≡ o → IsRecorded p
    → IsWellFormed A s → RecordedOrSame A s m p o y → IsWellFormed A y.1
left_formed A s m p o y at good h (fresh none small is) = subst (LeftFormed A) (sym is) (first_formed A s m p small good (at ∙ none) h)
left_formed A s m p o y at good h (repeated e there same is) =
    subst (LeftFormed A) (sym is) (received_formed A s e.number (requeued_by_repeat m) (queued_lasting m) h)
left_formed A s m p o y at good h (clash e there other is) = subst (IsWellFormed A) (sym is) h

record_formed : (A : Agreements) (s : State) (m : ℕ) (p : Posted) (y : Answer × State) → IsRecorded p → IsWellFormed A s → record_post A s m p ≡ Some y
    → IsWellFormed A y.1
unfolding record_post
record_formed A s m p y good h e = left_formed A s m p (received_as s p) y refl good h (post_cases A s m p (received_as s p) y e)

post_formed : (A : Agreements) (s : State) (m : ℕ) (r : PostReading) (y : Answer × State) → IsGood r → IsWellFormed A s → post A s m r ≡ Some y
    → IsWellFormed A y.1
post_formed A s m (Refuses line) y good h e = subst (LeftFormed A) (same_Some _ y e) h
post_formed A s m (IsReceipt r) y good h e = subst (LeftFormed A) (same_Some _ y e) (settle_formed A s m r h)
post_formed A s m (IsDocument p) y good h e = record_formed A s m p y (document_recorded (IsDocument p) p good refl) h e

-- ---- a step and a run

pub step_formed : (A : Agreements) (s : State) (e : Event) (y : Answer × State) → IsWellFormed A s → step A s e ≡ Some y → IsWellFormed A y.1
step_formed A s (Post head body m) y h is =
    let read = post_reading A (known_digests s.version) head body in
    post_formed A s m read y (reading_good A (known_digests s.version) head body) h is
step_formed A s (Submit organization partner content m) y h is = submit_formed A s organization partner content m y h is
step_formed A s (Begin n m) y h is = subst (LeftFormed A) (same_Some _ y is) (acted_formed A s n (begun_document A m) (document s n) (begun_keeps A m) h)
step_formed A s (Resend n m) y h is = subst (LeftFormed A) (same_Some _ y is) (acted_formed A s n (resent_document A m) (document s n) (resent_keeps A m) h)
step_formed A s (Outcome n got m) y h is =
    let known = known_digests s.version in
    subst (LeftFormed A) (same_Some _ y is) (acted_formed A s n (closed_document A known got m) (document s n) (closed_keeps A known got m) h)
step_formed A s (BeginReceipt n m) y h is =
    subst (LeftFormed A) (same_Some _ y is) (acted_in_formed A s n (begun_receipt A m) (received_entry s n) (receipt_begun_lasting A m) h)
step_formed A s (OutcomeReceipt n got m) y h is =
    subst (LeftFormed A) (same_Some _ y is) (acted_in_formed A s n (closed_receipt A got m) (received_entry s n) (receipt_closed_lasting A got m) h)
step_formed A s (Tick m) y h is = subst (LeftFormed A) (same_Some _ y is) (tick_formed A m s h)

pub empty_formed : (A : Agreements) (v : Version) (first : ℕ) → IsCounter first → IsWellFormed A (empty v first)
unfolding IsDistinct
empty_formed A v first h = record {
  received = record { counter = h; numbers = record { below = tt; distinct = tt; in_order = tt }; keys = tt; recorded = tt };
  sent = record { counter = h; numbers = record { below = tt; distinct = tt; in_order = tt }; named = tt; identifiers = tt; entries = tt };
}

-- the boxes stay
pub migrated_formed : (A : Agreements) (s : State) → IsWellFormed A s → IsWellFormed A (migrated_state s)
migrated_formed A s h = record { received = h.received; sent = h.sent }

run_formed : (A : Agreements) (old : State) (trace : Trace) (new : State) → IsWellFormed A old → Run A old trace new → IsWellFormed A new
run_formed A old [] new h run = subst (IsWellFormed A) (sym run) h
run_formed A old (AnEvent e (Answered a) ∷ rest) new h run = run_formed A run.0 rest new (step_formed A old e (a, run.0) h run.1) run.2
run_formed A old (AnEvent e (Failed fault) ∷ rest) new h run = run_formed A old rest new h run.1
run_formed A old (AMigration n ∷ rest) new h run = run_formed A (migrated_state old) rest new (migrated_formed A old h) run.2

pub formed : (A : Agreements) (v : Version) (first : ℕ) (trace : Trace) (s : State) → IsCounter first → Run A (empty v first) trace s → IsWellFormed A s
formed A v first trace s h run = run_formed A (empty v first) trace s (empty_formed A v first h) run
