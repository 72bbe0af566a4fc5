use Rattle.std.proofs.Common.{refl, rules, arith}
use Rattle.as2_messages.proofs.Answered.{all_too_large, takes_all}
use Rattle.as2_messages.proofs.answer_parser.take_all.Goals as goal

pub returns-then-bytes-saturating_sub : goal.returns-then-bytes-saturating_sub
returns-then-bytes-saturating_sub c = λ text awaits. all_too_large text c.args.bytes.now c.args.answer awaits (omega arith)

pub returns : goal.returns
returns c = λ text awaits. (tt, takes_all text c.args.bytes.now c.args.answer _ refl refl (search rules) (omega arith) awaits)
