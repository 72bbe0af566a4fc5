use Rattle.std.proofs.Common.{rules}
use Rattle.as2_control.proofs.Bodies.{demand_cut}
use Rattle.as2_control.proofs.demand.read_demand.Goals as goal

pub returns-in_err-content-clause-memory : goal.returns-in_err-content-clause-memory
returns-in_err-content-clause-memory c _ = (
  _,
  demand_cut c.args.frame.now c.in-Some.part.agreements c.in-Some.part.content.now c.in-Some.part.words.now
      c.in-Some.ensures.found (search rules) c.in-Some.ensures.words.0 c.in-Some.ensures.words.1,
)

pub returns-in_err-words-clause-memory : goal.returns-in_err-words-clause-memory
returns-in_err-words-clause-memory c _ = (
  _,
  demand_cut c.args.frame.now c.in-Some.part.agreements c.in-Some.part.content.now c.in-Some.part.words.now
      c.in-Some.ensures.found (search rules) c.in-Some.ensures.words.0 c.in-Some.ensures.words.1,
)
