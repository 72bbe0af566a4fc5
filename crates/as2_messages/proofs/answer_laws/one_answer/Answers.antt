use Rattle.as2_messages.proofs.OneAnswer.{holds_one, never_answers, never_opens_answers, never_opens_none}
use Rattle.as2_messages.proofs.answer_laws.one_answer.Goals as goal

pub returns-clause-one : goal.returns-clause-one
returns-clause-one c = holds_one

pub returns-clause-none : goal.returns-clause-none
returns-clause-none c = never_answers

pub returns-clause-whole : goal.returns-clause-whole
returns-clause-whole c = never_opens_answers

pub returns-clause-never_open : goal.returns-clause-never_open
returns-clause-never_open c = never_opens_none
