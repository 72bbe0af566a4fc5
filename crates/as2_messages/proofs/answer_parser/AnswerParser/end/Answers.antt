use Rattle.std.proofs.Common.{rules, ap, ◌∙◌}
use Rattle.as2_messages.specs.declared.answer_parser.AwaitedAnswer.{AwaitedAnswer}
use Rattle.as2_messages.proofs.Answered.{ends_cut, ends_whole, kept_cut}
use Rattle.as2_messages.proofs.answer_parser.AnswerParser.end.Goals as goal

pub returns-in_default-clause-ends : goal.returns-in_default-clause-ends
returns-in_default-clause-ends c = λ text holds. kept_cut c.args.self text (search rules) holds

pub returns-in-Body-clause-ends : goal.returns-in-Body-clause-ends
returns-in-Body-clause-ends c =
    λ text holds. ends_cut c.args.self c.in-Some.field-0 text c.in-Body.field-0 c.in-Some.is
    (ap (λ (a : AwaitedAnswer). a.missing) c.in-Some.field-0-is ∙ c.in-Body.is) holds

pub returns-clause-ends : goal.returns-clause-ends
returns-clause-ends c = λ text holds.
    ends_whole c.args.self c.in-Some.field-0 text c.in-Some.is (ap (λ (a : AwaitedAnswer). a.missing) c.in-Some.field-0-is ∙ c.in-Input.is) holds
