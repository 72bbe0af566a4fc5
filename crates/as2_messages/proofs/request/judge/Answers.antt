use Rattle.std.proofs.Common.{rules}
use Rattle.as2_messages.proofs.Judging.{not_complete, not_shorter, not_taken}
use Rattle.as2_messages.proofs.request.judge.Goals as goal

pub returns-in_default-clause-none : goal.returns-in_default-clause-none
returns-in_default-clause-none c =
    λ is. not_complete c.args.text.now c.parse_request.new.headers c.parse_request.result c.parse_request.ensures.found (search rules)

pub returns-then-head-text-clause-none : goal.returns-then-head-text-clause-none
returns-then-head-text-clause-none c =
    λ is. not_shorter c.args.text.now c.parse_request.new.headers c.parse_request.result c.in-Ok-Complete.head c.parse_request.ensures.found
    (search rules) (search rules)

pub returns-in_err-fields-clause-none : goal.returns-in_err-fields-clause-none
returns-in_err-fields-clause-none c = λ is.
    not_taken c.args.text.now c.parse_request.new.headers c.parse_request.result c.in-Ok-Complete.head c.parse_request.ensures.found (search rules)
    (c.fields_of.ensures.none (search rules))
