-- The answer of a text that comes in pieces is the one of the whole text.
use Rattle.std.proofs.Common.{◌≡◌, ◌-◌, ◌<◌, ◌≤◌, ℕ, List, [], ◌++◌, length, drop, Option, Some, None, refl, sym, ap, ◌∙◌, subst, append-nil, arith, inl, inr}
use Rattle.std.proofs.lemmas.List.{length-append}
use Rattle.httparse.specs.Grammar.{ResponseHead}
use Rattle.as2_messages.specs.Answering.{IsAnswerHead, FramesAnswer, BeginsAnswer, IsAnswerToEnd, AnswerIn, by_end, IsCutAnswer, in_head, in_body, IsOpenAnswer, IsNoAnswer, no_head, no_body, too_large, faulty_body}
use Rattle.as2_framing.specs.BodyPieces.{FeedsBody, HoldsBody, IsMissing}
use Rattle.as2_framing.specs.Chunks.{body_limit}
use Rattle.as2_framing.specs.declared.body.BodyFraming.{BodyFraming}
use Rattle.as2_framing.specs.declared.body.MissingBody.{MissingBody}
use Rattle.as2_framing.specs.declared.chunked.BodyPiece.{BodyPiece}
use Rattle.as2_framing.specs.declared.chunked.BodyPiece.TheVariants as fed
use Rattle.as2_framing.proofs.Bodies.{body_more, body_open}
use Rattle.as2_messages.specs.AnswerPieces.{JudgesAnswer, AwaitsAnswer, HoldsEnd, IsMissingEnd, HasKeptBy, HasKept}
use Rattle.as2_messages.specs.declared.framing.RequestFault.TheVariants.{BadChunk, TooLarge}
use Rattle.as2_messages.specs.declared.answer_parser.MissingEnd.{MissingEnd}
use Rattle.as2_messages.specs.declared.answer_parser.MissingEnd.TheVariants as missing
use Rattle.as2_framing.specs.HeadText.{up_to_empty_line, HasHeadText}
use Rattle.as2_framing.specs.HeadPieces.{HoldsHead}
use Rattle.as2_messages.specs.Requests.{Fields}
use Rattle.as2_messages.specs.declared.answer_head.BodyEnd.{BodyEnd}
use Rattle.as2_messages.specs.declared.answer_head.BodyEnd.TheVariants.{Framing, WithInput}
use Rattle.as2_messages.specs.declared.answer_head.JudgedAnswer.{JudgedAnswer}
use Rattle.as2_messages.specs.declared.answer_parser.AwaitedAnswer.{AwaitedAnswer}
use Rattle.as2_messages.specs.declared.answer_parser.AnswerParser.{AnswerParser}
use Rattle.as2_messages.specs.declared.answer_parser.ReceivedAnswer.{ReceivedAnswer}
use Rattle.as2_framing.specs.declared.head_bytes.HeadBytes.{HeadBytes}
use Rattle.as2_framing.proofs.Feeding.{short_window}
use Rattle.as2_messages.proofs.AnswerHeads.{judged_frames, frames_more}

-- ---- the body

-- before any of it came
pub awaits_first : (text after : List ℕ) (a : AwaitedAnswer) (end : BodyEnd) → a.answer.body ≡ [] → HoldsEnd a.missing end [] after after
    → FramesAnswer text a.answer.status a.answer.fields after (Some end) → AwaitsAnswer a text after
awaits_first text after a end none held f =
    record { after = after; end = end; frames = f; holds = subst (λ (b : List ℕ). HoldsEnd a.missing end b after after) (sym none) held }

end_more : (m : MissingEnd) (end : BodyEnd) (body text more : List ℕ) → HoldsEnd m end body text [] → HoldsEnd m end body (text ++ more) more
end_more (missing.Body m) (Framing how) body text more h = body_more m how body text more h
end_more missing.Input WithInput body text more h = (ap (λ (t : List ℕ). t ++ more) (h.0 ∙ append-nil body), h.1)
end_more (missing.Body m) WithInput body text more h = absurd h
end_more missing.Input (Framing how) body text more h = absurd h

-- a piece more
pub awaits_more : (a : AwaitedAnswer) (text more : List ℕ) → AwaitsAnswer a text [] → AwaitsAnswer a (text ++ more) more
awaits_more a text more w = record {
  after = w.after ++ more;
  end = w.end;
  frames = frames_more text more a.answer.status a.answer.fields w.after (Some w.end) w.frames;
  holds = end_more a.missing w.end a.answer.body w.after more w.holds;
}

-- ---- less than an answer

-- where no head ended yet
pub head_cut : (h : HeadBytes) (text : List ℕ) → HoldsHead h text → IsCutAnswer text
head_cut h text k = in_head (ap up_to_empty_line (short_window text (omega (arith, k.short)) ∙ k.holds.behind) ∙ k.holds.none) k.short

-- the answer is whole where the input ends
end_whole : (text after : List ℕ) (r : ReceivedAnswer) (end : BodyEnd) → FramesAnswer text r.status r.fields after (Some end)
    → HoldsEnd missing.Input end r.body after [] → IsAnswerToEnd text r.status r.fields r.body
end_whole text after r WithInput f h =
    record { frames = subst (λ (t : List ℕ). FramesAnswer text r.status r.fields t (Some WithInput)) (h.0 ∙ append-nil r.body) f; short = h.1 }
end_whole text after r (Framing how) f h = absurd h

pub to_end : (a : AwaitedAnswer) (text : List ℕ) → a.missing ≡ missing.Input → AwaitsAnswer a text []
    → IsAnswerToEnd text a.answer.status a.answer.fields a.answer.body
to_end a text is w = end_whole text w.after a.answer w.end w.frames (subst (λ (m : MissingEnd). HoldsEnd m w.end a.answer.body w.after []) is w.holds)

-- .. and cut where some of its body is missing
end_cut : (text after : List ℕ) (r : ReceivedAnswer) (m : MissingBody) (end : BodyEnd) → IsMissing m → FramesAnswer text r.status r.fields after (Some end)
    → HoldsEnd (missing.Body m) end r.body after [] → IsCutAnswer text
end_cut text after r m (Framing how) some f h = in_body r.status r.fields after how f (body_open m how r.body after some h)
end_cut text after r m WithInput some f h = absurd h

awaits_cut : (a : AwaitedAnswer) (text : List ℕ) (m : MissingBody) → a.missing ≡ missing.Body m → IsMissing m → AwaitsAnswer a text [] → IsCutAnswer text
awaits_cut a text m is some w =
    end_cut text w.after a.answer m w.end some w.frames (subst (λ (x : MissingEnd). HoldsEnd x w.end a.answer.body w.after []) is w.holds)

kept_open : (a : AwaitedAnswer) (m : MissingEnd) (text : List ℕ) → a.missing ≡ m → IsMissingEnd m → AwaitsAnswer a text [] → IsOpenAnswer text
kept_open a (missing.Body m) text is some w = inl (awaits_cut a text m is some w)
kept_open a missing.Input text is some w = inr (
  a.answer.status,
  a.answer.fields,
  a.answer.body,
  to_end a text is w,
)

pub awaits_open : (a : AwaitedAnswer) (text : List ℕ) → IsMissingEnd a.missing × AwaitsAnswer a text [] → IsOpenAnswer text
awaits_open a text k = kept_open a a.missing text refl k.0 k.1

open_by : (head : HeadBytes) (o : Option AwaitedAnswer) (text : List ℕ) → HasKeptBy head o text → IsOpenAnswer text
open_by head None text h = inl (head_cut head text h)
open_by head (Some a) text h = awaits_open a text h

-- an answer isn't whole yet
pub holds_open : (p : AnswerParser) (text : List ℕ) → HasKept p text → IsOpenAnswer text
holds_open p text h = open_by p.head p.awaited text h

pub kept_head : (p : AnswerParser) (text : List ℕ) → p.awaited ≡ None → HasKept p text → HoldsHead p.head text
kept_head p text none h = subst (λ (o : Option AwaitedAnswer). HasKeptBy p.head o text) none h

pub awaits_again : (p : AnswerParser) (a : AwaitedAnswer) (text bytes : List ℕ) → p.awaited ≡ Some a → HasKept p text → AwaitsAnswer a (text ++ bytes) bytes
awaits_again p a text bytes is h =
    let k : HasKeptBy p.head (Some a) text = subst (λ (o : Option AwaitedAnswer). HasKeptBy p.head o text) is h in awaits_more a text bytes k.1

-- ---- the end of the input

pub kept_cut : (p : AnswerParser) (text : List ℕ) → p.awaited ≡ None → HasKept p text → IsCutAnswer text
kept_cut p text none h = head_cut p.head text (kept_head p text none h)

pub kept_body : (p : AnswerParser) (a : AwaitedAnswer) (text : List ℕ) → p.awaited ≡ Some a → HasKept p text → IsMissingEnd a.missing × AwaitsAnswer a text []
kept_body p a text is h = subst (λ (o : Option AwaitedAnswer). HasKeptBy p.head o text) is h

pub ends_cut : (p : AnswerParser) (a : AwaitedAnswer) (text : List ℕ) (m : MissingBody) → p.awaited ≡ Some a → a.missing ≡ missing.Body m → HasKept p text
    → IsCutAnswer text
ends_cut p a text m some is h =
    let k = kept_body p a text some h in awaits_cut a text m is (subst IsMissingEnd is k.0) k.1

pub ends_whole : (p : AnswerParser) (a : AwaitedAnswer) (text : List ℕ) → p.awaited ≡ Some a → a.missing ≡ missing.Input → HasKept p text
    → AnswerIn text a.answer.status a.answer.fields a.answer.body
ends_whole p a text some is h = by_end (to_end a text is (kept_body p a text some h).1)

-- ---- a piece more

abbrev Feeding : ReceivedAnswer → ReceivedAnswer → MissingBody → MissingBody → List ℕ → BodyPiece → Type 0
Feeding old new m n bytes f = (how : BodyFraming) (t : List ℕ) → HoldsBody m how old.body t bytes → FeedsBody m n how new.body t bytes f

-- the answer with the rest of a piece
abbrev pub FeedsAnswer : ReceivedAnswer → MissingBody → List ℕ → BodyPiece → Type 0
FeedsAnswer r n text fed.Open = IsMissing n × AwaitsAnswer (record { answer = r; missing = missing.Body n }) text []
FeedsAnswer r n text (fed.Whole used) = (rest : List ℕ) × BeginsAnswer text r.status r.fields r.body rest
FeedsAnswer r n text fed.Bad = IsNoAnswer text
FeedsAnswer r n text fed.TooLarge = IsNoAnswer text

feeds_framed : (old new : ReceivedAnswer) (m n : MissingBody) (text after bytes : List ℕ) (how : BodyFraming) (f : BodyPiece)
    → FramesAnswer text new.status new.fields after (Some (Framing how)) → FeedsBody m n how new.body after bytes f
    → FeedsAnswer new n text f
feeds_framed old new m n text after bytes how fed.Open frames k = (k.0, record { after = after; end = Framing how; frames = frames; holds = k.2 })
feeds_framed old new m n text after bytes how (fed.Whole used) frames k = (drop used bytes, record { after = after; how = how; frames = frames; begins = k.2 })
feeds_framed old new m n text after bytes how fed.Bad frames k = faulty_body new.status new.fields after how BadChunk frames k
feeds_framed old new m n text after bytes how fed.TooLarge frames k = faulty_body new.status new.fields after how TooLarge frames k

feeds_end : (old new : ReceivedAnswer) (m n : MissingBody) (text after bytes : List ℕ) (end : BodyEnd) (f : BodyPiece) → Feeding old new m n bytes f
    → FramesAnswer text new.status new.fields after (Some end)
    → HoldsEnd (missing.Body m) end old.body after bytes → FeedsAnswer new n text f
feeds_end old new m n text after bytes (Framing how) f feeds frames h = feeds_framed old new m n text after bytes how f frames (feeds how after h)
feeds_end old new m n text after bytes WithInput f feeds frames h = absurd h

pub feeds_answer : (old new : ReceivedAnswer) (m n : MissingBody) (text bytes : List ℕ) (f g : BodyPiece) → f ≡ g → new.status ≡ old.status
    → new.fields ≡ old.fields → Feeding old new m n bytes f
    → AwaitsAnswer (record { answer = old; missing = missing.Body m }) text bytes → FeedsAnswer new n text g
feeds_answer old new m n text bytes f g is status fields feeds w =
    subst (FeedsAnswer new n text) is
    (feeds_end old new m n text w.after bytes w.end f feeds
    (subst (λ (x : Fields). FramesAnswer text new.status x w.after (Some w.end)) (sym fields)
    (subst (λ (s : ℕ). FramesAnswer text s old.fields w.after (Some w.end)) (sym status) w.frames))
    w.holds)

large_end : (text after bytes : List ℕ) (r : ReceivedAnswer) (end : BodyEnd) → FramesAnswer text r.status r.fields after (Some end)
    → HoldsEnd missing.Input end r.body after bytes → body_limit - length r.body < length bytes → IsNoAnswer text
large_end text after bytes r WithInput f h large = too_large r.status r.fields after f (omega (arith, ap length h.0, length-append r.body bytes, h.1, large))
large_end text after bytes r (Framing how) f h large = absurd h

pub all_too_large : (text bytes : List ℕ) (r : ReceivedAnswer) → AwaitsAnswer (record { answer = r; missing = missing.Input }) text bytes
    → body_limit - length r.body < length bytes → IsNoAnswer text
all_too_large text bytes r w large = large_end text w.after bytes r w.end w.frames w.holds large

all_end : (text after bytes : List ℕ) (old new : ReceivedAnswer) (end : BodyEnd) → FramesAnswer text new.status new.fields after (Some end)
    → HoldsEnd missing.Input end old.body after bytes → new.body ≡ old.body ++ bytes
    → length bytes ≤ body_limit - length old.body → HoldsEnd missing.Input end new.body after []
all_end text after bytes old new WithInput f h is few =
    (h.0 ∙ sym is ∙ sym (append-nil new.body), omega (arith, ap length is, length-append old.body bytes, h.1, few))
all_end text after bytes old new (Framing how) f h is few = absurd h

pub takes_all : (text bytes : List ℕ) (old new : ReceivedAnswer) → new.status ≡ old.status → new.fields ≡ old.fields → new.body ≡ old.body ++ bytes
    → length bytes ≤ body_limit - length old.body
    → AwaitsAnswer (record { answer = old; missing = missing.Input }) text bytes → AwaitsAnswer (record { answer = new; missing = missing.Input }) text []
takes_all text bytes old new status fields is few w =
    let frames = subst (λ (x : Fields). FramesAnswer text new.status x w.after (Some w.end)) (sym fields)
    (subst (λ (s : ℕ). FramesAnswer text s old.fields w.after (Some w.end)) (sym status) w.frames) in
    record { after = w.after; end = w.end; frames = frames; holds = all_end text w.after bytes old new w.end frames w.holds is few }

-- ---- no answer

pub none_judged : (text after bytes head : List ℕ) → bytes ≡ head → HasHeadText text head after
    → ((h : ResponseHead) (fields : Fields) → IsAnswerHead bytes h fields → ⊥) → IsNoAnswer text
none_judged text after bytes head same found never = no_head bytes after (subst (λ (b : List ℕ). HasHeadText text b after) (sym same) found) never

pub none_framed : (text after bytes head : List ℕ) (j : JudgedAnswer) → bytes ≡ head → HasHeadText text head after → JudgesAnswer bytes j → j.end ≡ None
    → IsNoAnswer text
none_framed text after bytes head j same found q none =
    no_body j.status j.fields after (judged_frames text bytes after j None (subst (λ (b : List ℕ). HasHeadText text b after) (sym same) found) q none)
