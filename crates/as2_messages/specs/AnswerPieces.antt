-- What is kept of a text whose answer isn't whole yet, and what a piece more tells (RFC 9112, section 2.1).
use Rattle.std.specs.Prelude.{IsTrue, ◌≡◌, ℕ, ◌≤◌, List, [], ◌++◌, length, Option, Some, None, ⊤}
use Rattle.httparse.specs.Grammar.{ResponseHead, status_code}
use Rattle.as2_messages.specs.Answering.{IsAnswerHead, body_end, FramesAnswer, BeginsAnswer, AnswerIn, IsCutAnswer, IsOpenAnswer, IsNoAnswer}
use Rattle.as2_framing.specs.BodyPieces.{HoldsBody, IsMissing}
use Rattle.as2_framing.specs.Chunks.{body_limit}
use Rattle.as2_framing.specs.HeadPieces.{HoldsHead}
use Rattle.as2_messages.specs.declared.answer_head.BodyEnd.{BodyEnd}
use Rattle.as2_messages.specs.declared.answer_head.BodyEnd.TheVariants.{Framing, WithInput}
use Rattle.as2_messages.specs.declared.answer_head.JudgedAnswer.{JudgedAnswer}
use Rattle.as2_messages.specs.declared.answer_parser.AwaitedAnswer.{AwaitedAnswer}
use Rattle.as2_messages.specs.declared.answer_parser.MissingEnd.{MissingEnd}
use Rattle.as2_messages.specs.declared.answer_parser.MissingEnd.TheVariants as missing
use Rattle.as2_messages.specs.declared.answer_parser.AnswerParser.{AnswerParser}
use Rattle.as2_messages.specs.declared.answer_parser.ParsedAnswer.{ParsedAnswer}
use Rattle.as2_messages.specs.declared.answer_parser.ParsedAnswer.TheVariants as parsed
use Rattle.as2_messages.specs.declared.answer_parser.ReceivedAnswer.{ReceivedAnswer}
use Rattle.as2_messages.specs.declared.answer_parser.Taken.{Taken}
use Rattle.as2_messages.specs.declared.answer_parser.Taken.TheVariants as taken
use Rattle.as2_framing.specs.declared.head_bytes.HeadBytes.{HeadBytes}

-- the bytes are a head, and that is what it says
pub record JudgesAnswer (text : List ℕ) (j : JudgedAnswer) : Type 0 where
  pub head : ResponseHead
  pub reads : IsAnswerHead text head j.fields
  pub code : j.status ≡ status_code head
  pub ends : j.end ≡ body_end j.status head.minor j.fields

-- of the body at the front of the text these bytes came, that is missing, and the rest of the text is still to be taken
abbrev pub HoldsEnd : MissingEnd → BodyEnd → List ℕ → List ℕ → List ℕ → Type 0
HoldsEnd (missing.Body m) (Framing how) body text rest = HoldsBody m how body text rest
HoldsEnd missing.Input WithInput body text rest = (text ≡ body ++ rest) × (length body ≤ body_limit)
HoldsEnd (missing.Body m) WithInput body text rest = ⊥
HoldsEnd missing.Input (Framing how) body text rest = ⊥

-- the head of the answer stands at the front of the text, then its body as far as it came, and then the rest; that is missing
pub record AwaitsAnswer (a : AwaitedAnswer) (text rest : List ℕ) : Type 0 where
  pub after : List ℕ
  pub end : BodyEnd
  pub frames : FramesAnswer text a.answer.status a.answer.fields after (Some end)
  pub holds : HoldsEnd a.missing end a.answer.body after rest

-- some of the body is missing, or the end of the input
abbrev pub IsMissingEnd : MissingEnd → Type 0
IsMissingEnd (missing.Body m) = IsMissing m
IsMissingEnd missing.Input = ⊤

-- the text is less than an answer: a part of a head is kept, or an answer with a part of its body
abbrev pub HasKeptBy : HeadBytes → Option AwaitedAnswer → List ℕ → Type 0
HasKeptBy head None text = HoldsHead head text
HasKeptBy head (Some a) text = IsMissingEnd a.missing × AwaitsAnswer a text []

abbrev pub HasKept : AnswerParser → List ℕ → Type 0
HasKept p text = HasKeptBy p.head p.awaited text

-- memory for an answer wasn't there, and nothing is kept of a body
abbrev pub IsSpent : AnswerParser → Type 0
IsSpent p = IsTrue p.is_spent × (p.awaited ≡ None)

-- what an awaited answer is with the rest of the text
abbrev pub IsTakenAs : List ℕ → Taken → Type 0
IsTakenAs text (taken.Open a) = IsMissingEnd a.missing × AwaitsAnswer a text []
IsTakenAs text (taken.Whole r) = (rest : List ℕ) × BeginsAnswer text r.status r.fields r.body rest
IsTakenAs text taken.NoAnswer = IsNoAnswer text

-- what the whole text begins with, and that of it is kept
abbrev pub ParsesAnswer : AnswerParser → List ℕ → ParsedAnswer → Type 0
ParsesAnswer p text parsed.Open = IsOpenAnswer text × HasKept p text
ParsesAnswer p text (parsed.Answer r) = (rest : List ℕ) × BeginsAnswer text r.status r.fields r.body rest
ParsesAnswer p text parsed.NoAnswer = IsNoAnswer text

-- what a text is that ends there
abbrev pub EndsAnswer : List ℕ → Option ReceivedAnswer → Type 0
EndsAnswer text (Some r) = AnswerIn text r.status r.fields r.body
EndsAnswer text None = IsCutAnswer text
