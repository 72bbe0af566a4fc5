use Rattle.std.proofs.Common.{ℕ, List, ◌++◌, Option, rules, subst, sym, ◌∙◌, inl}
use Rattle.as2_framing.specs.HeadPieces.{HoldsHead, FeedsHead}
use Rattle.as2_messages.specs.AnswerPieces.{AwaitsAnswer, HasKeptBy, HasKept, ParsesAnswer}
use Rattle.as2_framing.specs.declared.head_bytes.HeadPiece.{HeadPiece}
use Rattle.as2_messages.specs.declared.answer_parser.AwaitedAnswer.{AwaitedAnswer}
use Rattle.as2_messages.specs.declared.answer_parser.ParsedAnswer.{ParsedAnswer}
use Rattle.as2_messages.proofs.Answered.{awaits_again, head_cut, kept_head}
use Rattle.as2_messages.proofs.Parsing.{when_ok}
use Rattle.as2_messages.proofs.answer_parser.AnswerParser.take_piece.Goals as goal

pub returns-in-Some : goal.returns-in-Some
returns-in-Some c =
    when_ok (λ (p : ParsedAnswer). (text : List ℕ) → AwaitsAnswer c.in-Some.awaited text c.args.bytes.now → ParsesAnswer c.take_body.new.self text p)
    (λ (p : ParsedAnswer). (text : List ℕ) → HasKept c.args.self.now text → ParsesAnswer c.take_body.new.self (text ++ c.args.bytes.now) p) c.take_body.result
    (λ p told text holds. told (text ++ c.args.bytes.now)
    (awaits_again c.args.self.now c.in-Some.awaited text c.args.bytes.now (sym c.take.ensures.value ∙ c.in-Some.is) holds))
    c.take_body.ensures

pub returns-in-Open : goal.returns-in-Open
returns-in-Open c = λ text holds.
    let kept : HoldsHead c.feed.new.self (text ++ c.args.bytes.now) =
    subst (λ (piece : HeadPiece). FeedsHead c.feed.new.self text c.args.bytes.now piece) c.in-Open.is
    (c.in_ok-feed.ensures.fed text (kept_head c.args.self.now text (search rules) holds)) in (
      inl (head_cut c.feed.new.self (text ++ c.args.bytes.now) kept),
      subst (λ (o : Option AwaitedAnswer). HasKeptBy c.feed.new.self o (text ++ c.args.bytes.now)) (sym c.take.ensures.after) kept,
    )
