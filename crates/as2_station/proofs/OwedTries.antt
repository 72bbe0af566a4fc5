-- What a try makes of a receipt that is found, and what its end does.
use Rattle.std.proofs.Common.{◌≡◌, ◌∙◌, ℕ, ◌+◌, not, Bool, true, false, Some, None, Ok, Err, nat_le, refl, ap}
use Rattle.std.specs.Prelude.{if◌then◌else◌}
use Rattle.as2_exchange.specs.Agreement.{Agreements, Partner}
use Rattle.as2_exchange.specs.OwedReceipts.{is_pending, is_shut, begun_receipt, closed_receipt}
use Rattle.as2_exchange.specs.Readings.{receipt_job}
use Rattle.as2_exchange.specs.Receipts.{is_delivery}
use Rattle.as2_exchange.specs.Recording.{receipt_out}
use Rattle.as2_exchange.specs.State.{State, received_entry, change_received}
use Rattle.as2_exchange.specs.Step.{on_received}
use Rattle.as2_exchange.specs.Tries.{is_early, is_last}
use Rattle.as2_exchange.specs.declared.answer.Answer.{Answer}
use Rattle.as2_exchange.specs.declared.answer.Answer.TheVariants.{AlreadySettled, Delivered, Job as AJob, Refused, TryFailed}
use Rattle.as2_exchange.specs.declared.answer.Job.{Job}
use Rattle.as2_exchange.specs.declared.answer.Refusal.{Refusal}
use Rattle.as2_exchange.specs.declared.answer.Refusal.TheVariants.{AllSettled, NoOpenTry, NotDue, TriesUsed}
use Rattle.as2_exchange.specs.declared.attempt.Attempt.TheVariants.{Idle, Last, Running, Used}
use Rattle.as2_exchange.specs.declared.event.TryAnswer.{TryAnswer}
use Rattle.as2_exchange.specs.declared.inbox.InEntry.{InEntry}
use Rattle.as2_exchange.specs.declared.inbox.ReceiptStage.TheVariants.{Sent}
use Rattle.as2_records.specs.Standing.{IsCounted}
use Rattle.as2_records.specs.Owing.{with_receipt_progress, set_receipt_in}
use Rattle.as2_station.specs.OwedTries.{end_answer, ended_receipt, tried_receipt, receipt_try_refusal}
use Rattle.as2_station.specs.Trying.{agreed_partner}
use Rattle.as2_station.proofs.Acting.{acts_agreed, refused_agreed}
use Rattle.as2_station.proofs.ActingIn.{changes_in}
use Rattle.as2_station.proofs.Begun.{begins_by, refused_by}

-- ---- a try

module _ (A : Agreements) (m : ℕ) (e : InEntry) where
  pub not_agreed : (reason : Refusal) → agreed_partner A e.posted.receiver e.posted.sender ≡ Err reason → begun_receipt A m e ≡ (Refused reason, e)
  unfolding begun_receipt
  not_agreed reason is = refused_agreed A e.posted.receiver e.posted.sender e _ reason is

  pub no_try : (p : Partner) (reason : Refusal) → agreed_partner A e.posted.receiver e.posted.sender ≡ Ok p → receipt_try_refusal p e m ≡ Some reason
      → begun_receipt A m e ≡ (Refused reason, e)
  unfolding begun_receipt
  no_try p reason known is = acts_agreed A e.posted.receiver e.posted.sender e _ p known
      ∙ refused_by (not (is_pending e.receipt_stage)) (nat_le p.max_tries e.tries) (is_early m e.due) e _ reason is

  pub a_try : (p : Partner) → agreed_partner A e.posted.receiver e.posted.sender ≡ Ok p → receipt_try_refusal p e m ≡ None
      → begun_receipt A m e ≡ (AJob (receipt_job e.posted.how (receipt_out A e.number e.posted)), with_receipt_progress (tried_receipt p e m) e)
  unfolding begun_receipt
  a_try p known is =
      acts_agreed A e.posted.receiver e.posted.sender e _ p known
      ∙ begins_by (not (is_pending e.receipt_stage)) (nat_le p.max_tries e.tries) (is_early m e.due) e _ is
      ∙ by (receipt_job e.posted.how (receipt_out A e.number e.posted)) (nat_le p.max_tries (e.tries + 1))
    where
      by : (job : Job) (last : Bool)
          → ◌≡◌ {A = Answer
          × InEntry} (
            AJob job,
            if last then record e { tries = e.tries + 1; attempt = Last; due = None } else record e {
              tries = e.tries + 1;
              attempt = Running;
              due = Some (m + p.retry_seconds);
            },
          ) (
            AJob job,
            with_receipt_progress
                (if last then record {
                  receipt_stage = e.receipt_stage;
                  tries = e.tries + 1;
                  attempt = Last;
                  due = None;
                } else record { receipt_stage = e.receipt_stage; tries = e.tries + 1; attempt = Running; due = Some (m + p.retry_seconds) }) e,
          )
      by job true = refl
      by job false = refl

-- there are tries left
pub receipt_tries_left : (p : Partner) (e : InEntry) (m : ℕ) → receipt_try_refusal p e m ≡ None → nat_le p.max_tries e.tries ≡ false
receipt_tries_left p e m is = by (not (is_pending e.receipt_stage)) (nat_le p.max_tries e.tries) (is_early m e.due) is
  where
    by : (a b c : Bool) → (if a then Some AllSettled else if b then Some TriesUsed else if c then Some NotDue else None) ≡ None → b ≡ false
    by true b c is = absurd cc
    by false true c is = absurd cc
    by false false c is = refl

-- what is written is what the machine leaves
pub begins_receipt : (A : Agreements) (m : ℕ) (s t : State) (e : InEntry) (p : Partner) → IsCounted s → received_entry s e.number ≡ Some e
    → agreed_partner A e.posted.receiver e.posted.sender ≡ Ok p → receipt_try_refusal p e m ≡ None
    → set_receipt_in e.number (tried_receipt p e m) s ≡ Some t
    → Some (on_received s e.number (begun_receipt A m)) ≡ Some (AJob (receipt_job e.posted.how (receipt_out A e.number e.posted)), t)
begins_receipt A m s t e p stands found known fine is =
    let there : change_received s e.number (with_receipt_progress (tried_receipt p e m)) ≡ t = cc in
    ap Some (changes_in s e stands found (begun_receipt A m) (AJob (receipt_job e.posted.how (receipt_out A e.number e.posted)))
    (with_receipt_progress (tried_receipt p e m)) (a_try A m e p known fine)
    ∙ ap (λ (x : State). (AJob (receipt_job e.posted.how (receipt_out A e.number e.posted)), x)) there)

-- ---- its outcome

module _ (A : Agreements) (got : TryAnswer) (m : ℕ) (e : InEntry) where
  pub not_agreed_then : (reason : Refusal) → agreed_partner A e.posted.receiver e.posted.sender ≡ Err reason → closed_receipt A got m e ≡ (Refused reason, e)
  unfolding closed_receipt
  not_agreed_then reason is = refused_agreed A e.posted.receiver e.posted.sender e _ reason is

  pub sent_before : (p : Partner) → agreed_partner A e.posted.receiver e.posted.sender ≡ Ok p → is_pending e.receipt_stage ≡ false
      → closed_receipt A got m e ≡ (AlreadySettled, e)
  unfolding closed_receipt
  sent_before p known sent = acts_agreed A e.posted.receiver e.posted.sender e _ p known ∙ rw sent refl

  pub no_open_try : (p : Partner) → agreed_partner A e.posted.receiver e.posted.sender ≡ Ok p → is_pending e.receipt_stage ≡ true → is_shut e.attempt ≡ true
      → closed_receipt A got m e ≡ (Refused NoOpenTry, e)
  unfolding closed_receipt
  no_open_try p known pending shut = acts_agreed A e.posted.receiver e.posted.sender e _ p known ∙ rw (pending, shut) refl

  pub ends : (p : Partner) → agreed_partner A e.posted.receiver e.posted.sender ≡ Ok p → is_pending e.receipt_stage ≡ true → is_shut e.attempt ≡ false
      → closed_receipt A got m e ≡ (end_answer (is_delivery got), with_receipt_progress (ended_receipt (is_delivery got) p e m) e)
  unfolding closed_receipt
  ends p known pending under_way = acts_agreed A e.posted.receiver e.posted.sender e _ p known ∙ rw (pending, under_way) (by (is_delivery got))
    where
      failed : (last : Bool)
          → ◌≡◌ {A = Answer
          × InEntry} (if last then (TryFailed, record e { attempt = Used; due = None }) else
          (TryFailed, record e { attempt = Idle; due = Some (m + p.retry_seconds) })) (
            TryFailed,
            with_receipt_progress
                (if last then record {
                  receipt_stage = e.receipt_stage;
                  tries = e.tries;
                  attempt = Used;
                  due = None;
                } else record { receipt_stage = e.receipt_stage; tries = e.tries; attempt = Idle; due = Some (m + p.retry_seconds) }) e,
          )
      failed true = refl
      failed false = refl

      by : (delivered : Bool)
          → ◌≡◌ {A = Answer
          × InEntry} (if delivered then (Delivered, record e { receipt_stage = Sent; attempt = Idle; due = None }) else if is_last e.attempt then
          (TryFailed, record e { attempt = Used; due = None }) else (TryFailed, record e { attempt = Idle; due = Some (m + p.retry_seconds) }))
          (end_answer delivered, with_receipt_progress (ended_receipt delivered p e m) e)
      by true = refl
      by false = failed (is_last e.attempt)

pub ends_receipt : (A : Agreements) (got : TryAnswer) (m : ℕ) (s t : State) (e : InEntry) (p : Partner) → IsCounted s → received_entry s e.number ≡ Some e
    → agreed_partner A e.posted.receiver e.posted.sender ≡ Ok p
    → is_pending e.receipt_stage ≡ true → is_shut e.attempt ≡ false → set_receipt_in e.number (ended_receipt (is_delivery got) p e m) s ≡ Some t
    → Some (on_received s e.number (closed_receipt A got m)) ≡ Some (end_answer (is_delivery got), t)
ends_receipt A got m s t e p stands found known pending under_way is =
    let there : change_received s e.number (with_receipt_progress (ended_receipt (is_delivery got) p e m)) ≡ t = cc in
    ap Some (changes_in s e stands found (closed_receipt A got m) (end_answer (is_delivery got))
    (with_receipt_progress (ended_receipt (is_delivery got) p e m)) (ends A got m e p known pending under_way)
    ∙ ap (λ (x : State). (end_answer (is_delivery got), x)) there)
