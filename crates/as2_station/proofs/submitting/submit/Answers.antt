use Rattle.std.proofs.Common.{◌≡◌, ◌∙◌, None, ap, is_none, refl, sym}
use Rattle.as2_exchange.specs.Readings.{out_id}
use Rattle.as2_exchange.specs.declared.answer.Answer.TheVariants.{Submitted}
use Rattle.as2_station.specs.Heads.{submit_refusal}
use Rattle.as2_station.proofs.Doing.{after_read, at_once, failing, passed_on, written, unwritten}
use Rattle.as2_station.proofs.HandedIn.{none_left, refuses, submits}
use Rattle.as2_station.proofs.submitting.submit.Goals as goal

pub returns-in-Some-clause-taken : goal.returns-in-Some-clause-taken
returns-in-Some-clause-taken g c =
    let refused = sym c.refusal_of.ensures ∙ c.in-Some.is in
    at_once _ _ _ _ _ _ (λ clean asks. absurd (let none = sym (ap is_none refused) ∙ asks in cc))
    (λ clean s rests known. refuses c.args.agreements.now s c.args.document.organization c.args.document.partner c.args.document.content
    c.args.moment c.in-Some.reason refused)

pub returns-in_err-id-clause-taken : goal.returns-in_err-id-clause-taken
returns-in_err-id-clause-taken g c =
    after_read _ _ _ _ _ _ _ _ _ _ _ (λ s known next. known) c.in_ok-number.ensures.numbers
    (passed_on _ _ _ _ _ _ _ _ c.from_residual-in_err-id.ensures.0 c.from_residual-in_err-id.ensures.1
    (failing _ _ _ _ _ _ refl))

pub returns-in_err-add_out-clause-taken : goal.returns-in_err-add_out-clause-taken
unfolding out_id
returns-in_err-add_out-clause-taken g c =
    let n = c.in_ok-number.field-0.document in
    let fine : submit_refusal c.args.agreements.now c.args.document.organization c.args.document.partner c.args.document.content ≡ None =
    sym c.refusal_of.ensures ∙ c.in_default.is in
    after_read _ _ _ _ _ (λ s. n ≡ s.next_out) _ _ _ _ _ (λ s known next. next.document) c.in_ok-number.ensures.numbers
    (passed_on _ _ _ _ _ _ _ _ c.from_residual-in_err-add_out.ensures.0 c.from_residual-in_err-add_out.ensures.1
    (unwritten _ _ _ _ _ _ _ _ (Submitted n)
    (λ s t stands known is counter. submits c.args.agreements.now s t c.args.document.organization c.args.document.partner c.args.document.content
    c.args.moment n fine known (rw (c.new_document.ensures, c.in_ok-id.ensures) at is) counter.1)
    c.in_err-add_out.ensures.fault
    (λ s known full. none_left c.args.agreements.now s c.args.document.organization c.args.document.partner c.args.document.content c.args.moment n
    fine known (rw c.new_document.ensures at (c.in_err-add_out.ensures.full full))) c.in_err-add_out.ensures.added))

pub returns-clause-taken : goal.returns-clause-taken
unfolding out_id
returns-clause-taken g c =
    let n = c.in_ok-number.field-0.document in
    let fine : submit_refusal c.args.agreements.now c.args.document.organization c.args.document.partner c.args.document.content ≡ None =
    sym c.refusal_of.ensures ∙ c.in_default.is in
    after_read _ _ _ _ _ (λ s. n ≡ s.next_out) _ _ _ _ _ (λ s known next. next.document) c.in_ok-number.ensures.numbers
    (written _ _ _ _ _ _ _ _ _
    (λ s t stands known is counter. submits c.args.agreements.now s t c.args.document.organization c.args.document.partner c.args.document.content
    c.args.moment n fine known (rw (c.new_document.ensures, c.in_ok-id.ensures) at is) counter.1)
    c.in_ok-add_out.ensures.added)
