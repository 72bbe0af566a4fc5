-- What the end of a try makes of a document that is found.
use Rattle.std.proofs.Common.{◌≡◌, ◌∙◌, ℕ, ◌+◌, ◌||◌, not, Bool, true, false, Option, option_map, option_and_then, Some, None, Ok, Err, nat_le, refl, sym, ap, subst}
use Rattle.std.specs.Prelude.{if◌then◌else◌, ⊤}
use Rattle.std.specs.Option.{option_map_or}
use Rattle.as2_exchange.specs.Agreement.{Agreements, Partner, Asked, NoReceipt, Sync, Async}
use Rattle.as2_exchange.specs.Documents.{closed_document, closed_by, delivered_document, failed_try, if_for, settled_as}
use Rattle.as2_exchange.specs.Invariants.{is_by_receipt}
use Rattle.as2_exchange.specs.Posts.{ReceivedReceipt}
use Rattle.as2_exchange.specs.Receipts.{is_delivery, receipt_in_answer}
use Rattle.as2_exchange.specs.State.{Digests, State, document, change_document, is_settled}
use Rattle.as2_exchange.specs.Step.{act_on, on_document}
use Rattle.as2_exchange.specs.Tries.{is_idle, is_last}
use Rattle.as2_exchange.specs.declared.answer.Answer.{Answer}
use Rattle.as2_exchange.specs.declared.answer.Answer.TheVariants.{AlreadySettled, Refused, Settled, TryFailed}
use Rattle.as2_exchange.specs.declared.answer.Refusal.{Refusal}
use Rattle.as2_exchange.specs.declared.answer.Refusal.TheVariants.{NoOpenTry}
use Rattle.as2_exchange.specs.declared.attempt.Attempt.TheVariants.{Idle}
use Rattle.as2_exchange.specs.declared.event.TryAnswer.{TryAnswer}
use Rattle.as2_exchange.specs.declared.outbox.Evidence.{Evidence}
use Rattle.as2_exchange.specs.declared.outbox.OutEntry.{OutEntry}
use Rattle.as2_mdn.specs.declared.detail.Detail.{Detail}
use Rattle.as2_mdn.specs.declared.detail.Detail.TheVariants.{Retry, TriesUsed}
use Rattle.as2_records.specs.Progressing.{come_to, set_out_in}
use Rattle.as2_records.specs.Standing.{IsCounted}
use Rattle.as2_records.specs.Settling.{settled_in}
use Rattle.as2_records.specs.declared.progress.Progress.{Progress}
use Rattle.as2_station.specs.Closing.{LeavesUnsettled, progress_after_failure, ended_document, further, settled_by, without_receipt}
use Rattle.as2_station.specs.Trying.{agreed_partner}
use Rattle.as2_station.specs.declared.closing.End.{End}
use Rattle.as2_station.specs.declared.closing.End.TheVariants as ending
use Rattle.as2_station.proofs.Acting.{acts_agreed, changes, refused_agreed}

-- ---- how it ends

-- a document that no receipt settled gets no detail that a receipt alone gives
abbrev IsUnsettled : Answer → OutEntry → Type 0
IsUnsettled (Settled detail) d = ⊤
IsUnsettled other d = is_by_receipt d.detail ≡ false

module _ (p : Partner) (m : ℕ) (d : OutEntry) where
  -- a try that failed
  pub fails : ended_document (ending.Failed (progress_after_failure p m d)) d ≡ failed_try p m d
  fails = by (is_last d.attempt)
    where
      by : (last : Bool)
          → ◌≡◌ {A = Answer
          × OutEntry} (
            TryFailed,
            further
                (if last then record { tries = d.tries; attempt = Idle; due = None; detail = TriesUsed } else record {
                  tries = d.tries;
                  attempt = Idle;
                  due = Some (m + p.retry_seconds);
                  detail = Retry;
                }) d,
          )
          (if last then (TryFailed, record d { attempt = Idle; due = None; detail = TriesUsed }) else
          (TryFailed, record d { attempt = Idle; due = Some (m + p.retry_seconds); detail = Retry }))
      by true = refl
      by false = refl

  -- an answer of success without its receipt
  pub delivers : ended_document (without_receipt p.receipt p m d) d ≡ delivered_document p.receipt p m d
  delivers = by p.receipt
    where
      by : (asked : Asked) → ended_document (without_receipt asked p m d) d ≡ delivered_document asked p m d
      by Async = refl
      by NoReceipt = refl
      by Sync = fails

  fails_unsettled : IsUnsettled (failed_try p m d).0 (failed_try p m d).1
  fails_unsettled = by (is_last d.attempt)
    where
      tried : Bool → Answer × OutEntry
      tried last = if last then (TryFailed, record d { attempt = Idle; due = None; detail = TriesUsed }) else
          (TryFailed, record d { attempt = Idle; due = Some (m + p.retry_seconds); detail = Retry })

      by : (last : Bool) → IsUnsettled (tried last).0 (tried last).1
      by true = refl
      by false = refl

  closes_unsettled : (got : TryAnswer) (o : Option ReceivedReceipt) → IsUnsettled (closed_by p got m d o).0 (closed_by p got m d o).1
  closes_unsettled got (Some r) = tt
  closes_unsettled got None = by (is_delivery got)
    where
      by_terms : (asked : Asked) → IsUnsettled (delivered_document asked p m d).0 (delivered_document asked p m d).1
      by_terms Async = refl
      by_terms NoReceipt = refl
      by_terms Sync = fails_unsettled

      left : Bool → Answer × OutEntry
      left success = if success then delivered_document p.receipt p m d else failed_try p m d

      by : (success : Bool) → IsUnsettled (left success).0 (left success).1
      by true = by_terms p.receipt
      by false = fails_unsettled

  pub leaves_unsettled : (got : TryAnswer) (o : Option ReceivedReceipt) (end : End) → ended_document end d ≡ closed_by p got m d o → LeavesUnsettled end
  leaves_unsettled got o (ending.ByReceipt detail evidence) is = tt
  leaves_unsettled got o (ending.Delivered progress) is = subst (λ (x : Answer × OutEntry). IsUnsettled x.0 x.1) (sym is) (closes_unsettled got o)
  leaves_unsettled got o (ending.Failed progress) is = subst (λ (x : Answer × OutEntry). IsUnsettled x.0 x.1) (sym is) (closes_unsettled got o)

  -- the receipt for it, or none
  pub closes_by_receipt : (got : TryAnswer) (o : Option ReceivedReceipt) (x : Answer × OutEntry) → option_map (settled_by m d) o ≡ Some x
      → closed_by p got m d o ≡ x
  closes_by_receipt got None x is = absurd cc
  closes_by_receipt got (Some r) x is = cc

  pub closes_without : (got : TryAnswer) (o : Option ReceivedReceipt) → option_map (settled_by m d) o ≡ None → is_delivery got ≡ true
      → closed_by p got m d o ≡ ended_document (without_receipt p.receipt p m d) d
  closes_without got None is success = rw success (sym delivers)
  closes_without got (Some r) is success = absurd cc

-- ---- the outcome

module _ (A : Agreements) (digests : Digests) (got : TryAnswer) (m : ℕ) (d : OutEntry) where
  pub not_agreed : (reason : Refusal) → agreed_partner A d.organization d.partner ≡ Err reason → closed_document A digests got m d ≡ (Refused reason, d)
  unfolding closed_document
  not_agreed reason is = refused_agreed A d.organization d.partner d _ reason is

  pub settled_before : (p : Partner) → agreed_partner A d.organization d.partner ≡ Ok p → is_settled d ≡ true
      → closed_document A digests got m d ≡ (AlreadySettled, d)
  unfolding closed_document
  settled_before p known settled = acts_agreed A d.organization d.partner d _ p known ∙ rw settled refl

  pub no_open_try : (p : Partner) → agreed_partner A d.organization d.partner ≡ Ok p → is_settled d ≡ false → is_idle d.attempt ≡ true
      → closed_document A digests got m d ≡ (Refused NoOpenTry, d)
  unfolding closed_document
  no_open_try p known unsettled idle = acts_agreed A d.organization d.partner d _ p known ∙ rw (unsettled, idle) refl

  pub closes : (p : Partner) → agreed_partner A d.organization d.partner ≡ Ok p → is_settled d ≡ false → is_idle d.attempt ≡ false
      → closed_document A digests got m d ≡ closed_by p got m d (option_and_then (if_for d) (receipt_in_answer digests got))
  unfolding closed_document
  closes p known unsettled under_way = acts_agreed A d.organization d.partner d _ p known ∙ rw (unsettled, under_way) refl

-- ---- what is written

module _ (s t : State) (d : OutEntry) (found : document s d.number ≡ Some d) where
  acts_on : (act : OutEntry → Answer × OutEntry) (a : Answer) (change : OutEntry → OutEntry) → ((e : OutEntry) → act e ≡ (a, change e))
      → change_document s d.number change ≡ t → on_document s d.number act ≡ (a, t)
  acts_on act a change is left =
      ap (act_on s d.number act) found
      ∙ ap (λ (f : OutEntry → Answer × OutEntry). ((f d).0, change_document s d.number (λ e. (f e).1))) (λ i e. is e i) ∙ ap (λ (x : State). (a, x)) left

  -- the receipt settles it
  pub ends_by_receipt : (detail : Detail) (evidence : Evidence) → settled_in d.number detail evidence s ≡ Some t
      → Some (on_document s d.number (ended_document (ending.ByReceipt detail evidence))) ≡ Some (Settled detail, t)
  ends_by_receipt detail evidence is =
      ap Some (acts_on _ (Settled detail) (settled_as detail evidence) (λ e. refl)
      (by (option_map_or is_settled (document s d.number) true || not (is_by_receipt detail)) is))
    where
      by : (refused : Bool) → (if refused then None else Some (change_document s d.number (settled_as detail evidence))) ≡ Some t
          → change_document s d.number (settled_as detail evidence) ≡ t
      by true is = absurd cc
      by false is = cc

  -- once it is begun, it is so wherever it comes to
  still_begun : (p : Progress) → d.begun ≡ true → further p d ≡ come_to p d
  still_begun p begun = ap (λ (b : Bool). record d { begun = b; tries = p.tries; attempt = p.attempt; due = p.due; detail = p.detail })
      (begun ∙ sym (ap (λ (b : Bool). b || nat_le 1 p.tries) begun))

  -- it comes so far
  pub ends_at : IsCounted s → d.begun ≡ true → (act : OutEntry → Answer × OutEntry) (a : Answer) (progress : Progress) → act d ≡ (a, further progress d)
      → set_out_in d.number progress s ≡ Some t → Some (on_document s d.number act) ≡ Some (a, t)
  ends_at stands begun act a progress acts is =
      let left : Some (change_document s d.number (come_to progress)) ≡ Some t =
      ap (option_map (λ _. change_document s d.number (come_to progress))) (sym found) ∙ is in
      let there : change_document s d.number (come_to progress) ≡ t = cc in
      ap Some (changes s d stands found act a (come_to progress) (acts ∙ ap (λ (e : OutEntry). (a, e)) (still_begun progress begun))
      ∙ ap (λ (x : State). (a, x)) there)
