use Rattle.std.proofs.Common.{◌≡◌, ◌∙◌, None, sym, refl, ap}
use Rattle.as2_exchange.specs.Readings.{value_of}
use Rattle.as2_exchange.specs.State.{received_as}
use Rattle.as2_exchange.specs.Recording.{answer_to, record_post}
use Rattle.as2_exchange.specs.Lines.{refusal}
use Rattle.as2_exchange.specs.declared.answer.Answer.TheVariants.{Http}
use Rattle.as2_exchange.specs.declared.answer.Line.TheVariants.{IdUsedBefore}
use Rattle.as2_station.proofs.Clashing.{no_conflict}
use Rattle.as2_station.proofs.Doing.{after_read, failing, passed_on, unread, written, unwritten}
use Rattle.as2_station.proofs.Reaching.{adds, fills_up}
use Rattle.as2_station.proofs.recording.record_first.Goals as goal

pub returns-in_err-number-clause-taken : goal.returns-in_err-number-clause-taken
returns-in_err-number-clause-taken g c =
    passed_on _ _ _ _ _ _ _ _ c.from_residual.ensures.0 c.from_residual.ensures.1
    (unread _ _ _ _ _ _ _ _ c.in_err-number.ensures.numbers c.in_err-number.ensures.fault)

pub returns-in_err-answer-clause-taken : goal.returns-in_err-answer-clause-taken
returns-in_err-answer-clause-taken g c =
    after_read _ _ _ _ _ _ _ _ _ _ _ (λ s known next. known) c.in_ok-number.ensures.numbers
    (passed_on _ _ _ _ _ _ _ _ c.from_residual-in_err-answer.ensures.0 c.from_residual-in_err-answer.ensures.1 (failing _ _ _ _ _ _ refl))

pub returns-in_err-add_in-clause-taken : goal.returns-in_err-add_in-clause-taken
unfolding value_of record_post
returns-in_err-add_in-clause-taken g c =
    after_read _ _ _ _ _ (λ s. (received_as s c.args.posted ≡ None) × (c.in_ok-number.field-0.receipt ≡ s.next_in)) _ _ _ _ _
    (λ s known next. (known, next.receipt)) c.in_ok-number.ensures.numbers
    (passed_on _ _ _ _ _ _ _ _ c.from_residual-in_err-add_in.ensures.0 c.from_residual-in_err-add_in.ensures.1
    (unwritten _ _ _ _ _ _ _ _ (answer_to c.args.terms.now.agreements.now c.in_ok-number.field-0.receipt c.args.posted)
    (λ s t stands known is counter. rw known.0 (adds _ s t c.args.terms.now.moment _ c.args.posted known.1 (rw c.first_entry.ensures at is) counter.0))
    c.in_err-add_in.ensures.fault
    (λ s known full. rw known.0
    (fills_up _ s c.args.terms.now.moment _ c.args.posted known.1
    (rw c.first_entry.ensures at (c.in_err-add_in.ensures.full full)))) c.in_err-add_in.ensures.added))

pub returns-clause-taken : goal.returns-clause-taken
unfolding value_of record_post
returns-clause-taken g c =
    after_read _ _ _ _ _ (λ s. (received_as s c.args.posted ≡ None) × (c.in_ok-number.field-0.receipt ≡ s.next_in)) _ _ _ _ _
    (λ s known next. (known, next.receipt)) c.in_ok-number.ensures.numbers
    (written _ _ _ _ _ _ _ _ _
    (λ s t stands known is counter. rw (known.0, c.in_ok-answer.ensures)
    (adds _ s t c.args.terms.now.moment _ c.args.posted known.1 (rw c.first_entry.ensures at is) counter.0))
    c.in_ok-add_in.ensures.added)

pub returns-clause-own : goal.returns-clause-own
returns-clause-own g c = λ conflict. no_conflict c.args.terms.now.agreements.now c.in_ok-number.field-0.receipt c.args.posted
    (let same : c.in_ok-answer.answer ≡ refusal IdUsedBefore = cc in sym c.in_ok-answer.ensures ∙ ap Http same)
