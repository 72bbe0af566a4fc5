-- What each act leaves of an entry is an entry.
-- The plan: `IsEntry` is kept by each change that the machine makes of a document: a receipt, time, a Begin, an Outcome, a Resend. A new
-- detail gets a case in `passes_range` and, where a receipt gives it, a line in `judged_range`.
use Rattle.std.proofs.Common.{◌≡◌, ℕ, Bool, true, false, not, ◌||◌, Option, Some, None, refl, sym, ap, subst, arith}
use Rattle.std.specs.Prelude.{option_and_then, if◌then◌else◌, nat_le}
use Rattle.std.proofs.lemmas.Option.{same_Some}
use Rattle.as2_mdn.specs.Details.{class_of}
use Rattle.as2_mdn.specs.Dispositions.{says_processed, has_modifier, has_error}
use Rattle.as2_mdn.specs.Verdicts.{differs, is_missing, is_unknown, mic_compared}
use Rattle.as2_exchange.specs.Agreement.{Text, Agreements, Partner, Asked, NoReceipt, Sync, Async}
use Rattle.as2_exchange.specs.Detail.{Detail, New, Sending, Awaiting, Retry, Processed, NoReceiptAsked, Warning, NoMic, UnknownMic}
use Rattle.as2_exchange.specs.Detail.{NotProcessed, ErrorModifier, MicDiffers, TriesUsed, Overdue, Attempt, Idle, Running, Last, Used}
use Rattle.as2_exchange.specs.Readings.{Receipt, verdict}
use Rattle.as2_exchange.specs.State.{OutEntry, Digests, is_settled}
use Rattle.as2_exchange.specs.Events.{Answer, TryAnswer, Refused, AllSettled, TriesUsedUp, NotDue, NoOpenTry, AlreadySettled, Resent}
use Rattle.as2_exchange.specs.Posts.{ReceivedReceipt}
use Rattle.as2_exchange.specs.Receipts.{receipt_in_answer, is_delivery}
use Rattle.as2_exchange.specs.Documents.{settled_document, passes_at, passed_document, passes_into, begun_document, waits, resent_document}
use Rattle.as2_exchange.specs.Documents.{is_error, closed_document, closed_by, if_for, delivered_document, failed_try}
use Rattle.as2_exchange.specs.Tries.{is_due, is_early, is_idle, is_last}
use Rattle.as2_exchange.specs.Invariants.{is_by_receipt, IsEntry}
use Rattle.as2_exchange.proofs.Documents.{settled_names, passed_names, begun_names, closed_names}
use Rattle.as2_exchange.proofs.Documents.{resent_names, agreed_either, if_either, changed, changed_names}
use Rattle.as2_exchange.proofs.WellFormed.{unsettled_entry, KeepsEntries}

-- ---- a receipt

-- a verdict is a detail that a receipt alone gives, whichever line fits
abbrev judged : Bool → Bool → Bool → Bool → Bool → Bool → Detail
judged b1 b2 b3 b4 b5 b6 =
    if b1 then NotProcessed
    else if b2 then ErrorModifier
    else if b3 then MicDiffers
    else if b4 then Warning
    else if b5 then NoMic
    else if b6 then UnknownMic
    else Processed

judged_range : (b1 b2 b3 b4 b5 b6 : Bool) → is_by_receipt (judged b1 b2 b3 b4 b5 b6) ≡ true
judged_range true b2 b3 b4 b5 b6 = refl
judged_range false true b3 b4 b5 b6 = refl
judged_range false false true b4 b5 b6 = refl
judged_range false false false true b5 b6 = refl
judged_range false false false false true b6 = refl
judged_range false false false false false true = refl
judged_range false false false false false false = refl

pub verdict_range : (known : Digests) (r : Receipt) (content : Text) → is_by_receipt (verdict known r content) ≡ true
unfolding verdict
verdict_range known r content =
    let mic = mic_compared known r.mic content in
    judged_range (not (says_processed r.disposition)) (has_error r.disposition) (differs mic) (has_modifier r.disposition) (is_missing mic) (is_unknown mic)

settled_entry : (m : ℕ) (r : ReceivedReceipt) (d : OutEntry) → IsEntry d → IsEntry (settled_document m r d)
settled_entry m r d h = record { evidence = sym (verdict_range r.known r.receipt d.content); at_rest = λ g. (refl, refl); tried = h.tried }

pub settled_keeps : (m : ℕ) (r : ReceivedReceipt) → KeepsEntries (settled_document m r)
settled_keeps m r = record { names = settled_names m r; entry = settled_entry m r }

-- ---- a change of one document

changed_entry : (f : OutEntry → OutEntry) (d : OutEntry) (b : Bool) → IsEntry d → IsEntry (f d) → IsEntry (if b then f d else d)
changed_entry f d true h g = g
changed_entry f d false h g = h

pub changed_keeps : (n : ℕ) (f : OutEntry → OutEntry) → KeepsEntries f → KeepsEntries (changed n f)
changed_keeps n f kept = record { names = changed_names n f kept.names; entry = λ d h. changed_entry f d _ h (kept.entry d h) }

-- ---- time goes by

passes_range : (x : Detail) (a : Attempt) (y : Detail) → passes_into x a ≡ Some y → is_by_receipt y ≡ false
passes_range Awaiting a y h = ap is_by_receipt (sym (same_Some _ y h))
passes_range Sending Last y h = ap is_by_receipt (sym (same_Some _ y h))
passes_range Sending Idle y h = absurd (cc)
passes_range Sending Running y h = absurd (cc)
passes_range Sending Used y h = absurd (cc)
passes_range New a y h = absurd (cc)
passes_range Retry a y h = absurd (cc)
passes_range Processed a y h = absurd (cc)
passes_range NoReceiptAsked a y h = absurd (cc)
passes_range Warning a y h = absurd (cc)
passes_range NoMic a y h = absurd (cc)
passes_range UnknownMic a y h = absurd (cc)
passes_range NotProcessed a y h = absurd (cc)
passes_range ErrorModifier a y h = absurd (cc)
passes_range MicDiffers a y h = absurd (cc)
passes_range TriesUsed a y h = absurd (cc)
passes_range Overdue a y h = absurd (cc)

-- a settled document waits for nothing
passed_settled : (m : ℕ) (d : OutEntry) → d.due ≡ None → passed_document d (passes_at m d) ≡ d
passed_settled m d h = rw h refl

passed_by : (d : OutEntry) (o : Option Detail) → ((y : Detail) → o ≡ Some y → is_by_receipt y ≡ false) → is_settled d ≡ false → IsEntry d
    → IsEntry (passed_document d o)
passed_by d None range none h = h
passed_by d (Some y) range none h = unsettled_entry (record d { due = None; detail = y }) none (range y refl) h.tried

due_range : (b : Bool) (x : Detail) (a : Attempt) (y : Detail) → (if b then passes_into x a else None) ≡ Some y → is_by_receipt y ≡ false
due_range true x a y h = passes_range x a y h
due_range false x a y h = absurd (cc)

passed_entry : (m : ℕ) (d : OutEntry) (b : Bool) → is_settled d ≡ b → IsEntry d → IsEntry (passed_document d (passes_at m d))
passed_entry m d true is h = subst IsEntry (sym (passed_settled m d (h.at_rest is).1)) h
passed_entry m d false is h = passed_by d (passes_at m d) (due_range (is_due m d.due) d.detail d.attempt) is h

pub passed_keeps : (m : ℕ) → KeepsEntries (λ d. passed_document d (passes_at m d))
passed_keeps m = record { names = passed_names m; entry = λ d h. passed_entry m d (is_settled d) refl h }

-- ---- a try begins

abbrev begun_if : OutEntry → OutEntry → Answer → Bool → Bool → Bool → Answer × OutEntry
begun_if d x a b1 b2 b3 = if b1 then (Refused AllSettled, d) else if b2 then (Refused TriesUsedUp, d) else if b3 then (Refused NotDue, d) else (a, x)

begun_by : (d x : OutEntry) (a : Answer) (b1 b2 b3 : Bool) → is_settled d ≡ b1 → IsEntry d → (is_settled d ≡ false → IsEntry x)
    → IsEntry (begun_if d x a b1 b2 b3).1
begun_by d x a true b2 b3 is h g = h
begun_by d x a false true b3 is h g = h
begun_by d x a false false true is h g = h
begun_by d x a false false false is h g = g is

begun_entry : (A : Agreements) (m : ℕ) (d : OutEntry) → IsEntry d → IsEntry (begun_document A m d).1
unfolding begun_document
begun_entry A m d h = agreed_either IsEntry A d.organization d.partner d _ h
    (λ p. begun_by d _ _ (is_settled d) (nat_le p.max_tries d.tries) (waits d.detail || is_early m d.due) refl h
    (λ none. unsettled_entry _ none refl (λ g. refl)))

pub begun_keeps : (A : Agreements) (m : ℕ) → KeepsEntries (λ d. (begun_document A m d).1)
begun_keeps A m = record { names = begun_names A m; entry = begun_entry A m }

-- ---- a try ends

failed_entry : (p : Partner) (m : ℕ) (d : OutEntry) → is_settled d ≡ false → IsEntry d → IsEntry (failed_try p m d).1
failed_entry p m d none h = if_either IsEntry (is_last d.attempt) _ _ (unsettled_entry _ none refl h.tried) (unsettled_entry _ none refl h.tried)

delivered_entry : (a : Asked) (p : Partner) (m : ℕ) (d : OutEntry) → is_settled d ≡ false → IsEntry d → IsEntry (delivered_document a p m d).1
delivered_entry Async p m d none h = unsettled_entry _ none refl h.tried
delivered_entry NoReceipt p m d none h = unsettled_entry _ none refl h.tried
delivered_entry Sync p m d none h = failed_entry p m d none h

closed_by_entry : (p : Partner) (got : TryAnswer) (m : ℕ) (d : OutEntry) (o : Option ReceivedReceipt) → is_settled d ≡ false → IsEntry d
    → IsEntry (closed_by p got m d o).1
closed_by_entry p got m d (Some r) none h = settled_entry m r d h
closed_by_entry p got m d None none h =
    if_either IsEntry (is_delivery got) (delivered_document p.receipt p m d) (failed_try p m d)
    (delivered_entry p.receipt p m d none h) (failed_entry p m d none h)

abbrev closed_if : Partner → TryAnswer → ℕ → OutEntry → Option ReceivedReceipt → Bool → Bool → Answer × OutEntry
closed_if p got m d o b1 b2 = if b1 then (AlreadySettled, d) else if b2 then (Refused NoOpenTry, d) else closed_by p got m d o

closed_as_entry : (p : Partner) (got : TryAnswer) (m : ℕ) (d : OutEntry) (o : Option ReceivedReceipt) (b1 b2 : Bool) → is_settled d ≡ b1 → IsEntry d
    → IsEntry (closed_if p got m d o b1 b2).1
closed_as_entry p got m d o true b2 is h = h
closed_as_entry p got m d o false true is h = h
closed_as_entry p got m d o false false is h = closed_by_entry p got m d o is h

closed_entry : (A : Agreements) (known : Digests) (got : TryAnswer) (m : ℕ) (d : OutEntry) → IsEntry d → IsEntry (closed_document A known got m d).1
unfolding closed_document
closed_entry A known got m d h = agreed_either IsEntry A d.organization d.partner d _ h
    (λ p. closed_as_entry p got m d (option_and_then (if_for d) (receipt_in_answer known got)) (is_settled d) (is_idle d.attempt) refl h)

pub closed_keeps : (A : Agreements) (known : Digests) (got : TryAnswer) (m : ℕ) → KeepsEntries (λ d. (closed_document A known got m d).1)
closed_keeps A known got m = record { names = closed_names A known got m; entry = closed_entry A known got m }

-- ---- a document is sent anew

abbrev resent_if : ℕ → OutEntry → Bool → Bool → Answer × OutEntry
resent_if m d b1 b2 =
    if b1 then (Refused AllSettled, d)
    else if b2 then (Refused NotDue, d)
    else (Resent, record d { tries = 0; attempt = Idle; due = Some m; detail = New })

resent_by : (m : ℕ) (d : OutEntry) (b1 b2 : Bool) → is_settled d ≡ b1 → IsEntry d → IsEntry (resent_if m d b1 b2).1
resent_by m d true b2 is h = h
resent_by m d false true is h = h
resent_by m d false false is h = unsettled_entry _ is refl (λ g. absurd (omega (arith, g)))

resent_entry : (A : Agreements) (m : ℕ) (d : OutEntry) → IsEntry d → IsEntry (resent_document A m d).1
unfolding resent_document
resent_entry A m d h = agreed_either IsEntry A d.organization d.partner d _ h
    (λ p. resent_by m d (is_settled d) (not (is_error (class_of d.detail))) refl h)

pub resent_keeps : (A : Agreements) (m : ℕ) → KeepsEntries (λ d. (resent_document A m d).1)
resent_keeps A m = record { names = resent_names A m; entry = resent_entry A m }
