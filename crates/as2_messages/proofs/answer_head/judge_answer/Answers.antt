use Rattle.std.proofs.Common.{rules}
use Rattle.as2_messages.proofs.AnswerHeads.{not_complete, not_shorter, not_taken}
use Rattle.as2_messages.proofs.answer_head.judge_answer.Goals as goal

pub returns-in_default-clause-none : goal.returns-in_default-clause-none
returns-in_default-clause-none c =
    λ is. not_complete c.args.text.now c.parse_response.new.headers c.parse_response.result c.parse_response.ensures.found (search rules)

pub returns-then-head-text-clause-none : goal.returns-then-head-text-clause-none
returns-then-head-text-clause-none c =
    λ is. not_shorter c.args.text.now c.parse_response.new.headers c.parse_response.result c.in-Ok-Complete.head c.parse_response.ensures.found
    (search rules) (search rules)

pub returns-in_err-fields-clause-none : goal.returns-in_err-fields-clause-none
returns-in_err-fields-clause-none c = λ is.
    not_taken c.args.text.now c.parse_response.new.headers c.parse_response.result c.in-Ok-Complete.head c.parse_response.ensures.found (search rules)
    (c.fields_of.ensures.none (search rules))
