use Rattle.std.proofs.Common.{[], subst}
use Rattle.as2_messages.specs.AnswerPieces.{AwaitsAnswer, IsMissingEnd, IsTakenAs}
use Rattle.as2_messages.proofs.Answered.{awaits_open}
use Rattle.as2_messages.proofs.answer_parser.AnswerParser.take_body.Goals as goal

pub returns-in-Open : goal.returns-in-Open
returns-in-Open c = λ text awaits.
    let k : IsMissingEnd c.in-Open.awaited.missing
    × AwaitsAnswer c.in-Open.awaited text [] = subst (IsTakenAs text) c.in-Open.is (c.in_ok-awaited.ensures text awaits) in
    (awaits_open c.in-Open.awaited text k, k)

pub returns-in-Whole : goal.returns-in-Whole
returns-in-Whole c = λ text awaits. subst (IsTakenAs text) c.in-Whole.is (c.in_ok-awaited.ensures text awaits)

pub returns-in-NoAnswer : goal.returns-in-NoAnswer
returns-in-NoAnswer c = λ text awaits. subst (IsTakenAs text) c.in-NoAnswer.is (c.in_ok-awaited.ensures text awaits)
