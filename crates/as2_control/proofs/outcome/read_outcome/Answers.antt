use Rattle.as2_control.proofs.Bodies.{outcome_cut}
use Rattle.as2_control.proofs.outcome.read_outcome.Goals as goal

pub returns-in_err-output-clause-memory : goal.returns-in_err-output-clause-memory
returns-in_err-output-clause-memory c _ = (
  _,
  outcome_cut c.args.frame.now c.in-Some.part.status c.in-Some.part.output.now c.in-Some.part.errors.now
      c.in-Some.part.files.now c.in-Some.ensures.found c.in-Some.ensures.files.0 c.in-Some.ensures.files.1,
)

pub returns-in_err-errors-clause-memory : goal.returns-in_err-errors-clause-memory
returns-in_err-errors-clause-memory c _ = (
  _,
  outcome_cut c.args.frame.now c.in-Some.part.status c.in-Some.part.output.now c.in-Some.part.errors.now
      c.in-Some.part.files.now c.in-Some.ensures.found c.in-Some.ensures.files.0 c.in-Some.ensures.files.1,
)

pub returns-in_err-files-clause-memory : goal.returns-in_err-files-clause-memory
returns-in_err-files-clause-memory c _ = (
  _,
  outcome_cut c.args.frame.now c.in-Some.part.status c.in-Some.part.output.now c.in-Some.part.errors.now
      c.in-Some.part.files.now c.in-Some.ensures.found c.in-Some.ensures.files.0 c.in-Some.ensures.files.1,
)
