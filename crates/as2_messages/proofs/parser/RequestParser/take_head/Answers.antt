use Rattle.std.proofs.Common.{◌++◌, drop, rules}
use Rattle.as2_messages.proofs.Parsing.{head_refused}
use Rattle.as2_messages.proofs.parser.RequestParser.take_head.Goals as goal

pub returns-in-Err-Refused : goal.returns-in-Err-Refused
returns-in-Err-Refused c = λ text ends.
    head_refused c.deref.result.now c.args.self.now.head.text.items c.read_head-found.result c.in-Err-Refused.field-0 c.in-Err-Refused.refused
    c.read_head-found.ensures.refused c.in-Err-Refused.is (search rules) c.deref.ensures.value (text ++ c.args.bytes.now)
    (drop c.args.from c.args.bytes.now) ends.found
