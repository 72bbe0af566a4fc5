use Rattle.as2_control.proofs.Bodies.{no_errors, no_files, no_one_status, no_output, no_status}
use Rattle.as2_control.proofs.outcome.outcome_part.Goals as goal

pub returns-in_err-status-clause-none : goal.returns-in_err-status-clause-none
returns-in_err-status-clause-none c = rw c.from_residual-in_err-status.ensures
    (no_status c.args.frame.now c.in_ok-body.body.now c.in_ok-body.ensures.found c.in_err-status.ensures.none)

pub returns-in_err-output-clause-none : goal.returns-in_err-output-clause-none
returns-in_err-output-clause-none c = rw c.from_residual-in_err-output.ensures
    (no_output c.args.frame.now c.in_ok-body.body.now c.in_ok-status.status.now c.in_ok-status.rest.now c.in_ok-body.ensures.found
    (record { whole = c.in_ok-status.ensures.found; short = c.in_ok-status.ensures.short }) c.in_err-output.ensures.none)

pub returns-in_err-errors-clause-none : goal.returns-in_err-errors-clause-none
returns-in_err-errors-clause-none c = rw c.from_residual-in_err-errors.ensures
    (no_errors c.args.frame.now c.in_ok-body.body.now c.in_ok-status.status.now c.in_ok-status.rest.now
    c.in_ok-output.output.now c.in_ok-output.rest.now c.in_ok-body.ensures.found
    (record { whole = c.in_ok-status.ensures.found; short = c.in_ok-status.ensures.short })
    (record { whole = c.in_ok-output.ensures.found; short = c.in_ok-output.ensures.short }) c.in_err-errors.ensures.none)

pub returns-in_default-clause-none : goal.returns-in_default-clause-none
returns-in_default-clause-none c =
    no_one_status c.args.frame.now c.in_ok-body.body.now c.in_ok-status.status.now c.in_ok-status.rest.now c.in_ok-body.ensures.found
    (record { whole = c.in_ok-status.ensures.found; short = c.in_ok-status.ensures.short }) c.in_default.ensures.1

pub returns-then-not-is_files-clause-none : goal.returns-then-not-is_files-clause-none
returns-then-not-is_files-clause-none c =
    no_files c.args.frame.now c.in_ok-body.body.now c.in_ok-status.status.now c.in_ok-status.rest.now c.in_ok-output.output.now c.in_ok-output.rest.now
    c.in_ok-errors.errors.now c.in_ok-errors.files.now c.in_ok-body.ensures.found
    (record { whole = c.in_ok-status.ensures.found; short = c.in_ok-status.ensures.short })
    (record { whole = c.in_ok-output.ensures.found; short = c.in_ok-output.ensures.short })
    (record { whole = c.in_ok-errors.ensures.found; short = c.in_ok-errors.ensures.short }) (c.is_files.ensures.no c.if-not-is_files.true)
