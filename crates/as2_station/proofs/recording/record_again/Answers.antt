use Rattle.std.proofs.Common.{◌≡◌, ◌∙◌, true, false, Some, inr, refl, sym, ap, subst}
use Rattle.as2_exchange.specs.Posts.{repeats}
use Rattle.as2_exchange.specs.Recording.{answer_to, record_post}
use Rattle.as2_exchange.specs.Lines.{refusal}
use Rattle.as2_exchange.specs.State.{origin_of, received_as}
use Rattle.as2_exchange.specs.declared.answer.Answer.TheVariants.{Http}
use Rattle.as2_exchange.specs.declared.answer.Line.TheVariants.{IdUsedBefore}
use Rattle.as2_station.proofs.Clashing.{no_conflict}
use Rattle.as2_station.proofs.Doing.{after_read, failing, over_open, never_full, passed_on, unread, written, unwritten}
use Rattle.as2_station.proofs.Reaching.{clashes, requeues, stays}
use Rattle.as2_station.proofs.recording.record_again.Goals as goal

pub returns-in_err-origin-clause-taken : goal.returns-in_err-origin-clause-taken
returns-in_err-origin-clause-taken g c =
    passed_on _ _ _ _ _ _ _ _ c.from_residual.ensures.0 c.from_residual.ensures.1
    (unread _ _ _ _ _ _ _ _ c.in_err-origin.ensures.origin c.in_err-origin.ensures.fault)

pub returns-then-not-has_kept_mic-clause-taken : goal.returns-then-not-has_kept_mic-clause-taken
returns-then-not-has_kept_mic-clause-taken g c =
    let e = c.args.entry.now in
    let p = c.args.posted.now in
    after_read _ _ _ _ _ (λ s. received_as s p ≡ Some e) _ _ _ _ _ (λ s found told. found) c.in_ok-origin.ensures.origin (failing _ _ _ _ _ _ refl)

pub returns-then-not-repeats-clause-taken : goal.returns-then-not-repeats-clause-taken
unfolding record_post
returns-then-not-repeats-clause-taken g c =
    let e = c.args.entry.now in
    let p = c.args.posted.now in
    after_read _ _ _ _ _ (λ s. (received_as s p ≡ Some e) × (c.in_ok-origin.origin ≡ origin_of s.version)) _ _ _ _ _
    (λ s found told. (found, told)) c.in_ok-origin.ensures.origin
    (over_open _ _ _ _ _ _ c.in_ok-origin.ensures.origin.is_open
    (λ clean s stands given. rw (given.0, c.answer.ensures)
    (clashes _ s c.args.terms.now.moment p e (subst (λ o. repeats o e.number e.posted p ≡ false) given.1 (sym c.if-not-repeats.ensures)))))

pub returns-in_err-answer-clause-taken : goal.returns-in_err-answer-clause-taken
returns-in_err-answer-clause-taken g c =
    after_read _ _ _ _ _ (λ s. received_as s c.args.posted.now ≡ Some c.args.entry.now) _ _ _ _ _ (λ s found told. found) c.in_ok-origin.ensures.origin
    (passed_on _ _ _ _ _ _ _ _ c.from_residual-in_err-answer.ensures.0 c.from_residual-in_err-answer.ensures.1 (failing _ _ _ _ _ _ refl))

pub returns-then-not-is_requeued-clause-taken : goal.returns-then-not-is_requeued-clause-taken
unfolding record_post
returns-then-not-is_requeued-clause-taken g c =
    let e = c.args.entry.now in
    let p = c.args.posted.now in
    after_read _ _ _ _ _ (λ s. (received_as s p ≡ Some e) × (c.in_ok-origin.origin ≡ origin_of s.version)) _ _ _ _ _
    (λ s found told. (found, told)) c.in_ok-origin.ensures.origin
    (over_open _ _ _ _ _ _ c.in_ok-origin.ensures.origin.is_open
    (λ clean s stands given. rw (given.0, c.in_ok-answer.ensures)
    (stays _ s c.args.terms.now.moment p e stands given.0
    (subst (λ o. repeats o e.number e.posted p ≡ true) given.1 (sym c.if-not-repeats.ensures)) (sym c.if-not-is_requeued.ensures))))

pub returns-in_err-requeue_receipt-clause-taken : goal.returns-in_err-requeue_receipt-clause-taken
unfolding record_post
returns-in_err-requeue_receipt-clause-taken g c =
    let e = c.args.entry.now in
    let p = c.args.posted.now in
    after_read _ _ _ _ _ (λ s. (received_as s p ≡ Some e) × (c.in_ok-origin.origin ≡ origin_of s.version)) _ _ _ _ _
    (λ s found told. (found, told)) c.in_ok-origin.ensures.origin
    (passed_on _ _ _ _ _ _ _ _ c.from_residual-in_err-requeue_receipt.ensures.0 c.from_residual-in_err-requeue_receipt.ensures.1
    (unwritten _ _ _ _ _ _ _ _ (answer_to c.args.terms.now.agreements.now e.number e.posted)
    (λ s t stands given is counter. rw given.0
    (requeues _ s t c.args.terms.now.moment p e stands given.0
    (subst (λ o. repeats o e.number e.posted p ≡ true) given.1 (sym c.if-not-repeats.ensures)) (sym c.if-not-is_requeued.ensures) is))
    (inr c.in_err-requeue_receipt.ensures.fault)
    (λ s given full. never_full _ c.in_err-requeue_receipt.ensures.fault full) c.in_err-requeue_receipt.ensures.requeued))

pub returns-clause-taken : goal.returns-clause-taken
unfolding record_post
returns-clause-taken g c =
    let e = c.args.entry.now in
    let p = c.args.posted.now in
    after_read _ _ _ _ _ (λ s. (received_as s p ≡ Some e) × (c.in_ok-origin.origin ≡ origin_of s.version)) _ _ _ _ _
    (λ s found told. (found, told)) c.in_ok-origin.ensures.origin
    (written _ _ _ _ _ _ _ _ _
    (λ s t stands given is counter. rw (given.0, c.in_ok-answer.ensures)
    (requeues _ s t c.args.terms.now.moment p e stands given.0
    (subst (λ o. repeats o e.number e.posted p ≡ true) given.1 (sym c.if-not-repeats.ensures)) (sym c.if-not-is_requeued.ensures) is))
    c.in_ok-requeue_receipt.ensures.requeued)

pub returns-then-not-is_requeued-clause-whole : goal.returns-then-not-is_requeued-clause-whole
returns-then-not-is_requeued-clause-whole g c =
    λ conflict. no_conflict c.args.terms.now.agreements.now c.args.entry.now.number c.args.entry.now.posted
    (sym c.in_ok-answer.ensures ∙ (let same : c.in_ok-answer.answer ≡ refusal IdUsedBefore = cc in ap Http same))

pub returns-clause-whole : goal.returns-clause-whole
returns-clause-whole g c =
    λ conflict. no_conflict c.args.terms.now.agreements.now c.args.entry.now.number c.args.entry.now.posted
    (sym c.in_ok-answer.ensures ∙ (let same : c.in_ok-answer.answer ≡ refusal IdUsedBefore = cc in ap Http same))
