use Rattle.std.proofs.Common.{sym, subst, refl, inl, inr, List, ℕ, true}
use Rattle.as2_exchange.specs.declared.event.TryAnswer.TheVariants.{Reply}
use Rattle.as2_messages.specs.AnswerPieces.{EndsAnswer}
use Rattle.as2_messages.specs.Answering.{AnswerIn, by_length, by_end}
use Rattle.as2_messages.specs.declared.answer_parser.ReceivedAnswer.{ReceivedAnswer}
use Rattle.as2_links.specs.Happenings.{GetsBy}
use Rattle.as2_links.proofs.link.at_end.Goals as goal

gets : (text : List ℕ) (r : ReceivedAnswer) → AnswerIn text r.status r.fields r.body → GetsBy true text (Reply r.status r.fields r.body)
gets text r (by_length rest begins) = inl (rest, begins)
gets text r (by_end is) = inr (refl, is)

pub returns-in-Some : goal.returns-in-Some
returns-in-Some c = λ text kept.
    subst (GetsBy true text) (sym c.received.ensures)
    (gets text c.in-Some.answer (subst (EndsAnswer text) c.in-Some.is (c.end.ensures.ends text kept)))
