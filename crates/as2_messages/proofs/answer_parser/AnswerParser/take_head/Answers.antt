use Rattle.std.proofs.Common.{◌++◌, drop, rules}
use Rattle.as2_messages.proofs.Answered.{none_judged, none_framed}
use Rattle.as2_messages.proofs.answer_parser.AnswerParser.take_head.Goals as goal

pub returns-in-Err-BadHead : goal.returns-in-Err-BadHead
returns-in-Err-BadHead c = λ text ends.
    none_judged (text ++ c.args.bytes.now)
    (drop c.args.from c.args.bytes.now) c.deref.result.now c.args.self.now.head.text.items c.deref.ensures.value ends.found
    (c.judge_answer.ensures.none (search rules))

pub returns-in_default : goal.returns-in_default
returns-in_default c = λ text ends.
    none_framed (text ++ c.args.bytes.now)
    (drop c.args.from c.args.bytes.now) c.deref.result.now c.args.self.now.head.text.items c.in-Ok.judged c.deref.ensures.value ends.found
    c.in-Ok.ensures.found c.in_default.is
