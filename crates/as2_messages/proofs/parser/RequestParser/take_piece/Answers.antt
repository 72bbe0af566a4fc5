use Rattle.std.proofs.Common.{ℕ, List, ◌++◌, Option, rules, subst, sym, ◌∙◌}
use Rattle.as2_framing.specs.HeadPieces.{HoldsHead, FeedsHead}
use Rattle.as2_messages.specs.Parsing.{HasTakenBy, HasHead, HasTaken, Parses}
use Rattle.as2_framing.specs.declared.head_bytes.HeadPiece.{HeadPiece}
use Rattle.as2_messages.specs.declared.parser.Awaited.{Awaited}
use Rattle.as2_messages.specs.declared.parser.Parsed.{Parsed}
use Rattle.as2_messages.proofs.Parsing.{framed_again, head_open, held_head, when_ok}
use Rattle.as2_messages.proofs.parser.RequestParser.take_piece.Goals as goal

pub returns-in-Some : goal.returns-in-Some
returns-in-Some c =
    when_ok (λ (p : Parsed). (text : List ℕ) → HasHead c.args.self.now.head c.in-Some.awaited text c.args.bytes.now 0
    → Parses c.take_body.new.self text c.args.bytes.now p)
    (λ (p : Parsed). (text : List ℕ) → HasTaken c.args.self.now text → Parses c.take_body.new.self text c.args.bytes.now p) c.take_body.result
    (λ p told text holds. told text (framed_again c.args.self.now c.in-Some.awaited text c.args.bytes.now (sym c.take.ensures.value ∙ c.in-Some.is) holds))
    c.take_body.ensures

pub returns-in-Open : goal.returns-in-Open
returns-in-Open c = λ text holds.
    let kept : HoldsHead c.feed.new.self (text ++ c.args.bytes.now) =
    subst (λ (piece : HeadPiece). FeedsHead c.feed.new.self text c.args.bytes.now piece) c.in-Open.is
    (c.in_ok-feed.ensures.fed text (held_head c.args.self.now text (search rules) holds)) in (
      head_open c.feed.new.self (text ++ c.args.bytes.now) kept,
      subst (λ (o : Option Awaited). HasTakenBy c.feed.new.self o (text ++ c.args.bytes.now)) (sym c.take.ensures.after) kept,
    )
