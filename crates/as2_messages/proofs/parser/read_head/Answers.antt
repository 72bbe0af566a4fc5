use Rattle.std.proofs.Common.{refl, rules}
use Rattle.as2_messages.specs.Requests.{no_head}
use Rattle.as2_messages.proofs.Parsing.{judged_awaits, judged_refused}
use Rattle.as2_messages.proofs.parser.read_head.Goals as goal

pub returns-in-Err-BadHead-clause-refused : goal.returns-in-Err-BadHead-clause-refused
returns-in-Err-BadHead-clause-refused c = λ text after found. no_head c.args.head.now after found (c.judge.ensures.none (search rules)) refl

pub returns-in-Ok-framing-clause-found : goal.returns-in-Ok-framing-clause-found
returns-in-Ok-framing-clause-found c = λ text after found.
    judged_awaits text c.args.head.now after c.in-Ok.judged _ c.in-Ok-framing.framing found c.in-Ok.ensures.found c.in-Ok-framing.is refl refl refl
    refl c.new.ensures (c.new-in-Ok-framing.ensures after)

pub returns-in-Err-clause-refused : goal.returns-in-Err-clause-refused
returns-in-Err-clause-refused c = λ text after found.
    judged_refused text c.args.head.now after c.in-Ok.judged c.in-Err.reason c.is_head.result found c.in-Ok.ensures.found c.in-Err.is c.is_head.ensures
