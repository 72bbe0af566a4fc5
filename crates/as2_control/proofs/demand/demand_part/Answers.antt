use Rattle.as2_control.proofs.Bodies.{no_agreements, no_checksum, no_document, no_words}
use Rattle.as2_control.proofs.demand.demand_part.Goals as goal

pub returns-in_err-agreements-clause-none : goal.returns-in_err-agreements-clause-none
returns-in_err-agreements-clause-none c = rw c.from_residual-in_err-agreements.ensures
    (no_agreements c.args.frame.now c.in_ok-body.body.now c.in_ok-body.ensures.found c.in_err-agreements.ensures.none)

pub returns-in_err-content-clause-none : goal.returns-in_err-content-clause-none
returns-in_err-content-clause-none c = rw c.from_residual-in_err-content.ensures
    (no_document c.args.frame.now c.in_ok-body.body.now c.in_ok-agreements.agreements.now c.in_ok-agreements.rest.now c.in_ok-body.ensures.found
    (record { whole = c.in_ok-agreements.ensures.found; short = c.in_ok-agreements.ensures.short }) c.in_err-content.ensures.none)

pub returns-in_default-clause-none : goal.returns-in_default-clause-none
returns-in_default-clause-none c =
    no_checksum c.args.frame.now c.in_ok-body.body.now c.in_ok-agreements.agreements.now c.in_ok-agreements.rest.now c.in_ok-body.ensures.found
    (record { whole = c.in_ok-agreements.ensures.found; short = c.in_ok-agreements.ensures.short }) c.in_default.ensures.1

pub returns-then-not-is_words-clause-none : goal.returns-then-not-is_words-clause-none
returns-then-not-is_words-clause-none c =
    no_words c.args.frame.now c.in_ok-body.body.now c.in_ok-agreements.agreements.now c.in_ok-agreements.rest.now
    c.in_ok-content.content.now c.in_ok-content.words.now c.in_ok-body.ensures.found
    (record { whole = c.in_ok-agreements.ensures.found; short = c.in_ok-agreements.ensures.short })
    (record { whole = c.in_ok-content.ensures.found; short = c.in_ok-content.ensures.short }) (c.is_words.ensures.no c.if-not-is_words.true)
