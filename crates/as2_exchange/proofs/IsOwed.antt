-- What a repeat, a try and its outcome make of a receipt that is sent later is what one more fact tells.
-- The plan: `IsOwed` says stage, tries, attempt and due moment by the facts since the receipt was queued. A part for each event shows
-- that the entry it leaves is so by one fact more: `reposted_owed`, `begun_owed`, `closed_owed`. There the tests of the machine are
-- arguments of type Bool, and each case computes. The last part is of receipts that aren't sent later.
-- A new field of a receipt's progress is a line more in `IsOwed`; a new event is a part more.
use Rattle.std.proofs.Common.{◌≡◌, ℕ, ◌+◌, Bool, true, false, not, ◌&&◌, ◌||◌, List, [], ◌∷◌, ◌++◌, Option, Some, None, refl, sym, ap, ◌∙◌, subst}
use Rattle.std.specs.Prelude.{option_map, is_some, nat_le, if◌then◌else◌}
use Rattle.std.specs.List.{list_any}
use Rattle.std.proofs.Math.Nat.{add-zero}
use Rattle.std.proofs.lemmas.Bool.{false≢true}
use Rattle.std.proofs.lemmas.List.Folds.{list_any-append}
use Rattle.as2_exchange.specs.Agreement.{Agreements, Partner}
use Rattle.as2_exchange.specs.Detail.{Attempt, Idle, Running, Last, Used, ReceiptStage, Pending, Sent}
use Rattle.as2_exchange.specs.Readings.{Job as TheJob, is_async, receipt_job}
use Rattle.as2_exchange.specs.State.{Digests, InEntry}
use Rattle.as2_exchange.specs.Events.{Answer, Job, Refused, AllSettled, TriesUsedUp, NotDue, NoOpenTry, AlreadySettled, Delivered, TryFailed, TryAnswer}
use Rattle.as2_exchange.specs.Receipts.{is_delivery}
use Rattle.as2_exchange.specs.OwedReceipts.{is_pending, is_shut, begun_receipt, closed_receipt}
use Rattle.as2_exchange.specs.Recording.{requeued_by_repeat, is_done_with, receipt_out}
use Rattle.as2_exchange.specs.Tries.{is_early, is_last}
use Rattle.as2_exchange.specs.History.{FoundAt, Fact, ATry, AnOutcome, is_job, try_in, tries, with_past, first_of, last_of}
use Rattle.as2_exchange.specs.ReceiptHistory.{delivers, is_delivered, are_used, receipt_after, receipt_attempt, receipt_due}
use Rattle.as2_exchange.proofs.Decisions.{or_false}
use Rattle.as2_exchange.proofs.Places.{found_place, with_past-push, count_by-push}
use Rattle.as2_exchange.proofs.Entry.{TryWithOutcome, last_tried, later}
use Rattle.as2_exchange.proofs.Pushes.{with_fact, has_open, last_tried-push, is_some-last_tried, is_open-last_tried}
use Rattle.as2_exchange.proofs.Acts.{AreAgreed, agreed_is}

-- the entry is as the facts since it was queued tell
pub record IsOwed (p : Partner) (since : FoundAt ℕ Fact) (e : InEntry) : Type 0 where
  pub state : e.receipt_stage ≡ receipt_after (is_delivered since.after)
  pub count : e.tries ≡ tries since.after
  pub try : e.attempt ≡ receipt_attempt (is_delivered since.after) (nat_le p.max_tries (tries since.after)) (last_tried since.after)
  pub wait : e.due ≡ receipt_due p (is_delivered since.after) (nat_le p.max_tries (tries since.after)) since.it (last_tried since.after)

delivered-push : (since : List Fact) (x : Fact) → is_delivered (since ++ x ∷ []) ≡ (is_delivered since || delivers since x)
delivered-push since x =
    ap (list_any (λ (f : List Fact × Fact). delivers f.0 f.1)) (with_past-push [] since x)
    ∙ list_any-append (λ (f : List Fact × Fact). delivers f.0 f.1) (with_past [] since) ((since, x) ∷ [])
    ∙ ap (λ b. is_delivered since || b) (or_false (delivers since x))

tries-push : (since : List Fact) (x : Fact) → tries (since ++ x ∷ []) ≡ tries since + (if is_some (try_in x) then 1 else 0)
tries-push since x = count_by-push (λ f. is_some (try_in f)) since x

-- ---- a post

done_with : (d l : Bool) (t : Option TryWithOutcome) → is_done_with (receipt_after d) (receipt_attempt d l t) ≡ (d || (is_some t && l))
done_with true l t = refl
done_with false l None = refl
done_with false true (Some (t, None)) = refl
done_with false false (Some (t, None)) = refl
done_with false true (Some (t, Some o)) = refl
done_with false false (Some (t, Some o)) = refl

-- as it is queued
pub queued_owed : (p : Partner) (m : ℕ) (e : InEntry) → e.receipt_stage ≡ Pending → e.tries ≡ 0 → e.attempt ≡ Idle → e.due ≡ Some m
    → IsOwed p (found_place [] m) e
unfolding with_past last_of first_of
queued_owed p m e h g f k = record { state = h; count = g; try = f; wait = k }

pub reposted_owed : (p : Partner) (since : FoundAt ℕ Fact) (m : ℕ) (e : InEntry) → is_async e.posted.how ≡ true → IsOwed p since e
    → IsOwed p (if is_delivered since.after || are_used p since.after then found_place [] m else since) (requeued_by_repeat m e)
reposted_owed p since m e async h =
    subst (λ (b : Bool). IsOwed p (if done then found_place [] m else since) (if b then queued else e)) (sym same) (by done)
  where
    done : Bool
    done = is_delivered since.after || are_used p since.after

    queued : InEntry
    queued = record e { receipt_stage = Pending; tries = 0; attempt = Idle; due = Some m }

    same : (is_async e.posted.how && is_done_with e.receipt_stage e.attempt) ≡ done
    same =
        ap (λ (b : Bool). b && is_done_with e.receipt_stage e.attempt) async
        ∙ ap (λ (x : ReceiptStage). is_done_with x e.attempt) h.state
        ∙ ap (λ (x : Attempt). is_done_with (receipt_after (is_delivered since.after)) x) h.try
        ∙ done_with (is_delivered since.after) (nat_le p.max_tries (tries since.after)) (last_tried since.after)
        ∙ ap (λ (b : Bool). is_delivered since.after || (b && nat_le p.max_tries (tries since.after))) (sym (is_some-last_tried since.after))

    by : (b : Bool) → IsOwed p (if b then found_place [] m else since) (if b then queued else e)
    by true = queued_owed p m queued refl refl refl refl
    by false = h

-- ---- a try begins

abbrev tried : Partner → ℕ → InEntry → Bool → InEntry
tried p m e last =
    if last
    then record e { tries = e.tries + 1; attempt = Last; due = None }
    else record e { tries = e.tries + 1; attempt = Running; due = Some (m + p.retry_seconds) }

tried_is : (p : Partner) (m : ℕ) (e : InEntry) (b : Bool) → ((tried p m e b).receipt_stage ≡ e.receipt_stage) × ((tried p m e b).tries ≡ e.tries + 1)
    × ((tried p m e b).attempt ≡ (if b then Last else Running)) × ((tried p m e b).due ≡ (if b then None else Some (m + p.retry_seconds)))
tried_is p m e true = (refl, refl, refl, refl)
tried_is p m e false = (refl, refl, refl, refl)

pending_not : (d : Bool) (x : ReceiptStage) → x ≡ receipt_after d → is_pending x ≡ true → d ≡ false
pending_not true x is h = absurd (false≢true (sym (ap is_pending is) ∙ h))
pending_not false x is h = refl

-- one more fact since it was queued
abbrev pub more : FoundAt ℕ Fact → Fact → FoundAt ℕ Fact
more since x = found_place (since.after ++ x ∷ []) since.it

tried_owed : (p : Partner) (since : FoundAt ℕ Fact) (m : ℕ) (e : InEntry) → IsOwed p since e → is_pending e.receipt_stage ≡ true
    → IsOwed p (more since (ATry m)) (tried p m e (nat_le p.max_tries (e.tries + 1)))
tried_owed p since m e h pending =
    let is = tried_is p m e (nat_le p.max_tries (e.tries + 1)) in
    let none : is_delivered since.after ≡ false = pending_not (is_delivered since.after) e.receipt_stage h.state pending in
    let delivered : is_delivered (since.after ++ ATry m ∷ []) ≡ false = delivered-push since.after (ATry m) ∙ or_false (is_delivered since.after) ∙ none in
    let counted = tries-push since.after (ATry m) in
    let last = last_tried-push since.after (ATry m) in
    record {
      state = is.0 ∙ h.state ∙ ap receipt_after (none ∙ sym delivered);
      count = is.1 ∙ ap (λ n. n + 1) h.count ∙ sym counted;
      try = is.2 ∙ ap (λ n. if nat_le p.max_tries (n + 1) then Last else Running) h.count ∙ rw (delivered, counted, last) refl;
      wait = is.3 ∙ ap (λ n. if nat_le p.max_tries (n + 1) then None else Some (m + p.retry_seconds)) h.count ∙ rw (delivered, counted, last) refl;
    }

abbrev begun_if : Partner → ℕ → InEntry → TheJob → Bool → Bool → Bool → Answer × InEntry
begun_if p m e job pending used early =
    if not pending then (Refused AllSettled, e)
    else if used then (Refused TriesUsedUp, e)
    else if early then (Refused NotDue, e)
    else (Job job, tried p m e (nat_le p.max_tries (e.tries + 1)))

-- the facts of a receipt's tries, after a BeginMdn that was answered so
abbrev pub with_try : FoundAt ℕ Fact → ℕ → Answer → FoundAt ℕ Fact
with_try since m a = found_place (with_fact since.after (if is_job a then Some (ATry m) else None)) since.it

begun_by : (p : Partner) (since : FoundAt ℕ Fact) (m : ℕ) (e : InEntry) (job : TheJob) (pending used early : Bool) → is_pending e.receipt_stage ≡ pending
    → IsOwed p since e → IsOwed p (with_try since m (begun_if p m e job pending used early).0) (begun_if p m e job pending used early).1
begun_by p since m e job false used early is h = h
begun_by p since m e job true true early is h = h
begun_by p since m e job true false true is h = h
begun_by p since m e job true false false is h = tried_owed p since m e h is

pub begun_owed : (A : Agreements) (p : Partner) (since : FoundAt ℕ Fact) (m : ℕ) (e : InEntry) → AreAgreed A e.posted.receiver e.posted.sender p
    → IsOwed p since e → IsOwed p (with_try since m (begun_receipt A m e).0) (begun_receipt A m e).1
unfolding begun_receipt
begun_owed A p since m e agreed h =
    let job = receipt_job e.posted.how (receipt_out A e.number e.posted) in
    rw (agreed_is A e.posted.receiver e.posted.sender p e _ agreed)
    (begun_by p since m e job (is_pending e.receipt_stage) (nat_le p.max_tries e.tries) (is_early m e.due) refl h)

-- ---- a try ends

abbrev ended : Partner → ℕ → InEntry → ReceiptStage → Attempt → Bool → Answer × InEntry
ended p m e receipt_stage attempt delivery =
    if not (is_pending receipt_stage) then (AlreadySettled, e)
    else if is_shut attempt then (Refused NoOpenTry, e)
    else if delivery then (Delivered, record e { receipt_stage = Sent; attempt = Idle; due = None })
    else if is_last attempt then (TryFailed, record e { attempt = Used; due = None })
    else (TryFailed, record e { attempt = Idle; due = Some (m + p.retry_seconds) })

-- the entry has this stage, number of tries, attempt and due moment, by delivery, tries that are used up, and the last try
abbrev IsTold : Partner → ℕ → ℕ → InEntry → Bool → Bool → Option TryWithOutcome → Type 0
IsTold p queued n e d l t =
    (e.receipt_stage ≡ receipt_after d) × (e.tries ≡ n) × (e.attempt ≡ receipt_attempt d l t) × (e.due ≡ receipt_due p d l queued t)

ended_told : (p : Partner) (m queued n : ℕ) (e : InEntry) (g d l : Bool) (t : Option TryWithOutcome) (x : Fact) (got : TryAnswer)
    → IsTold p queued n e d l t
    → IsTold p queued n (ended p m e (receipt_after d) (receipt_attempt d l t) g).1 (d || (has_open t && g)) l (option_map (later x (Some (m, got))) t)
ended_told p m queued n e g true l t x got h = h
ended_told p m queued n e g false l None x got h = h
ended_told p m queued n e g false true (Some (t, Some f)) x got h = h
ended_told p m queued n e g false false (Some (t, Some f)) x got h = h
ended_told p m queued n e true false true (Some (t, None)) x got h = (refl, h.1, refl, refl)
ended_told p m queued n e true false false (Some (t, None)) x got h = (refl, h.1, refl, refl)
ended_told p m queued n e false false true (Some (t, None)) x got h = (h.0, h.1, refl, refl)
ended_told p m queued n e false false false (Some (t, None)) x got h = (h.0, h.1, refl, refl)

ended_owed : (p : Partner) (since : FoundAt ℕ Fact) (known : Digests) (got : TryAnswer) (m : ℕ) (e : InEntry) → IsOwed p since e
    → IsOwed p (more since (AnOutcome m known got)) (ended p m e e.receipt_stage e.attempt (is_delivery got)).1
ended_owed p since known got m e h =
    let n = tries since.after in
    let d = is_delivered since.after in
    let l = nat_le p.max_tries n in
    let t = last_tried since.after in
    let told : IsTold p since.it n e d l t = (h.state, h.count, h.try, h.wait) in
    let is = ended_told p m since.it n e (is_delivery got) d l t (AnOutcome m known got) got told in
    let last = last_tried-push since.after (AnOutcome m known got) in
    subst (λ (y : Answer × InEntry). IsOwed p (more since (AnOutcome m known got)) y.1) (sym same) (record {
      state = is.0 ∙ ap receipt_after (sym delivered);
      count = is.1 ∙ sym counted;
      try = is.2 ∙ rw (delivered, counted, last) refl;
      wait = is.3 ∙ rw (delivered, counted, last) refl;
    })
  where
    attempt : Attempt
    attempt = receipt_attempt (is_delivered since.after) (nat_le p.max_tries (tries since.after)) (last_tried since.after)

    same : ended p m e e.receipt_stage e.attempt (is_delivery got) ≡ ended p m e (receipt_after (is_delivered since.after)) attempt (is_delivery got)
    same =
        ap (λ (a : ReceiptStage). ended p m e a e.attempt (is_delivery got)) h.state
        ∙ ap (λ (a : Attempt). ended p m e (receipt_after (is_delivered since.after)) a (is_delivery got)) h.try

    delivered : is_delivered (since.after ++ AnOutcome m known got ∷ []) ≡ (is_delivered since.after || (has_open (last_tried since.after) && is_delivery got))
    delivered =
        delivered-push since.after (AnOutcome m known got)
        ∙ ap (λ (b : Bool). is_delivered since.after || (b && is_delivery got)) (is_open-last_tried since.after)

    counted : tries (since.after ++ AnOutcome m known got ∷ []) ≡ tries since.after
    counted = tries-push since.after (AnOutcome m known got) ∙ add-zero (tries since.after)

pub closed_owed : (A : Agreements) (p : Partner) (since : FoundAt ℕ Fact) (known : Digests) (got : TryAnswer) (m : ℕ) (e : InEntry)
    → AreAgreed A e.posted.receiver e.posted.sender p → IsOwed p since e → IsOwed p (more since (AnOutcome m known got)) (closed_receipt A got m e).1
unfolding closed_receipt
closed_owed A p since known got m e agreed h = rw (agreed_is A e.posted.receiver e.posted.sender p e _ agreed) (ended_owed p since known got m e h)

-- ---- a receipt that isn't sent later

pub never_begun : (A : Agreements) (p : Partner) (m : ℕ) (e : InEntry) → AreAgreed A e.posted.receiver e.posted.sender p → is_pending e.receipt_stage ≡ false
    → (begun_receipt A m e).1 ≡ e
unfolding begun_receipt
never_begun A p m e agreed h = rw (agreed_is A e.posted.receiver e.posted.sender p e _ agreed, h) refl

pub never_closed : (A : Agreements) (p : Partner) (got : TryAnswer) (m : ℕ) (e : InEntry) → AreAgreed A e.posted.receiver e.posted.sender p
    → is_pending e.receipt_stage ≡ false → (closed_receipt A got m e).1 ≡ e
unfolding closed_receipt
never_closed A p got m e agreed h = rw (agreed_is A e.posted.receiver e.posted.sender p e _ agreed, h) refl
