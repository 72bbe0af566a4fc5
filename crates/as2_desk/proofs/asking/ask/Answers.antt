use Rattle.as2_desk.proofs.HandedBack.{each_known}
use Rattle.as2_desk.specs.Questions.{told_as}
use Rattle.as2_desk.proofs.asking.ask.Goals as goal

pub returns-clause-asks : goal.returns-clause-asks
returns-clause-asks g c = λ known stood. record {
  told = told_as c.answer-told.result;
  refused = c.answer-told.ensures.refused;
  fault = c.answer-told.ensures.fault;
  tells = each_known _ _ known stood (λ s it. c.answer-told.ensures.tells it.0 s it.1);
  by_history = each_known _ _ known stood (λ s it. c.answer-told.ensures.by_history it.0 s it.1);
  prints = c.print.ensures.prints;
}
