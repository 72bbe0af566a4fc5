-- The answer that a text begins with (RFC 9112, sections 2, 4 and 6).
use Rattle.std.specs.Prelude.{◌≡◌, ◌⊎◌, ℕ, ◌<◌, ◌≤◌, ◌||◌, List, [], ◌∷◌, length, map, if◌then◌else◌, ◌==◌, nat_lt, Option, Some, None, Result, Ok, Err, codes, Bool, true, false, ⊤}
use Rattle.httparse.specs.Grammar.{ResponseHead, ReadsResponse, status_code}
use Rattle.httparse.specs.Spans.{name_and_value}
use Rattle.as2_names.specs.Heads.{values}
use Rattle.as2_exchange.specs.declared.event.TryAnswer.{TryAnswer}
use Rattle.as2_exchange.specs.declared.event.TryAnswer.TheVariants.{NoAnswer, Reply}
use Rattle.as2_framing.specs.Bodies.{BeginsBody, IsOpenBody}
use Rattle.as2_framing.specs.Chunks.{body_limit}
use Rattle.as2_framing.specs.declared.body.BodyFraming.{BodyFraming}
use Rattle.as2_framing.specs.declared.body.BodyFraming.TheVariants.{Length}
use Rattle.as2_messages.specs.Framing.{IsFaultyBody, coded_framing, content_length, is_chunked}
use Rattle.as2_framing.specs.HeadText.{HasHeadText, HasNoHeadText, head_limit}
use Rattle.as2_messages.specs.Requests.{Fields, fields_behind}
use Rattle.as2_messages.specs.declared.answer_head.BodyEnd.{BodyEnd}
use Rattle.as2_messages.specs.declared.answer_head.BodyEnd.TheVariants.{Framing, WithInput}
use Rattle.as2_messages.specs.declared.framing.RequestFault.{RequestFault}

-- ---- the head

-- the bytes are the head of an answer and nothing else, and its fields are those (RFC 9112, section 4)
abbrev pub IsAnswerHead : List ℕ → ResponseHead → Fields → Type 0
IsAnswerHead bytes head fields = ReadsResponse bytes head [] × (fields_behind [] (map name_and_value head.fields) ≡ Some fields)

-- ---- where the body ends (RFC 9112, section 6.3)

-- where a body ends: where the head says, if that can be read
abbrev pub end_framed : Result BodyFraming RequestFault → Option BodyEnd
end_framed (Ok how) = Some (Framing how)
end_framed (Err fault) = None

-- where a body ends, by the values of Content-Length; without one, with the input
abbrev pub end_by_lengths : List (List ℕ) → Option BodyEnd
end_by_lengths [] = Some WithInput
end_by_lengths (value ∷ []) = end_framed (content_length value)
end_by_lengths (value ∷ other ∷ others) = None

-- the status says that there is no body (RFC 9110, section 6.4.1)
abbrev pub has_no_body : ℕ → Bool
has_no_body status = status == 204 || status == 304

-- where a body ends, by the framing that one transfer coding gives, unless the status says that there is none
abbrev pub end_by_coding : ℕ → Result BodyFraming RequestFault → Option BodyEnd
end_by_coding status (Ok how) = if has_no_body status then Some (Framing (Length 0)) else Some (Framing how)
end_by_coding status (Err fault) = None

-- where a body ends, by the status, the version and the values of Transfer-Encoding and of Content-Length
abbrev pub end_by_status : ℕ → ℕ → List (List ℕ) → List (List ℕ) → Option BodyEnd
end_by_status status minor [] lengths = if has_no_body status then Some (Framing (Length 0)) else end_by_lengths lengths
end_by_status status minor (coding ∷ []) lengths = end_by_coding status (coded_framing (is_chunked minor coding) lengths)
end_by_status status minor (coding ∷ other ∷ others) lengths = None

-- where the body of an answer ends, if one can be read: below 200 the answer is still to come (RFC 9110, section 15.2)
abbrev pub body_end : ℕ → ℕ → Fields → Option BodyEnd
body_end status minor fields =
    if nat_lt status 200 then None
    else end_by_status status minor (values (codes "transfer-encoding") fields) (values (codes "content-length") fields)

-- ---- answers

-- a whole head of an answer stands at the front of the text, and then what follows; the head says that of its body
pub record FramesAnswer (text : List ℕ) (status : ℕ) (fields : Fields) (after : List ℕ) (end : Option BodyEnd) : Type 0 where
  pub head : ResponseHead
  pub bytes : List ℕ
  pub found : HasHeadText text bytes after
  pub reads : IsAnswerHead bytes head fields
  pub code : status ≡ status_code head
  pub ends : body_end status head.minor fields ≡ end

-- the text begins with that answer, whose body ends where the head says, and then comes the rest
pub record BeginsAnswer (text : List ℕ) (status : ℕ) (fields : Fields) (body rest : List ℕ) : Type 0 where
  pub after : List ℕ
  pub how : BodyFraming
  pub frames : FramesAnswer text status fields after (Some (Framing how))
  pub begins : BeginsBody how after body rest

-- the text is that answer, whose body is all that follows its head
pub record IsAnswerToEnd (text : List ℕ) (status : ℕ) (fields : Fields) (body : List ℕ) : Type 0 where
  pub frames : FramesAnswer text status fields body (Some WithInput)
  pub short : length body ≤ body_limit

-- that is the answer of the whole input
pub data AnswerIn (input : List ℕ) (status : ℕ) (fields : Fields) (body : List ℕ) : Type 0 where
  by_length : (rest : List ℕ) (begins : BeginsAnswer input status fields body rest) → AnswerIn input status fields body
  by_end : (is : IsAnswerToEnd input status fields body) → AnswerIn input status fields body

-- ---- less than an answer, and none

-- the text ends before the head does, or before a body does whose end the head tells
pub data IsCutAnswer (text : List ℕ) : Type 0 where
  in_head : (none : HasNoHeadText text) (short : length text < head_limit) → IsCutAnswer text
  in_body : (status : ℕ) (fields : Fields) (after : List ℕ) (how : BodyFraming) (frames : FramesAnswer text status fields after (Some (Framing how))) (undecided : IsOpenBody how after) → IsCutAnswer text

-- bytes that follow are of the answer
abbrev pub IsOpenAnswer : List ℕ → Type 0
IsOpenAnswer text = IsCutAnswer text ⊎ ((status : ℕ) × (fields : Fields) × (body : List ℕ) × IsAnswerToEnd text status fields body)

-- The text begins with no answer, however it goes on. No head ends within its limit, or the bytes up to the first empty line are no
-- head. Or no body can be read, it is too long, or what came of it can't become one.
pub data IsNoAnswer (text : List ℕ) : Type 0 where
  too_long : (none : HasNoHeadText text) (long : head_limit ≤ length text) → IsNoAnswer text
  no_head : (bytes after : List ℕ) (found : HasHeadText text bytes after) (never : (head : ResponseHead) (fields : Fields) → ¬ (IsAnswerHead bytes head fields)) → IsNoAnswer text
  no_body : (status : ℕ) (fields : Fields) (after : List ℕ) (frames : FramesAnswer text status fields after None) → IsNoAnswer text
  too_large : (status : ℕ) (fields : Fields) (after : List ℕ) (frames : FramesAnswer text status fields after (Some WithInput)) (large : body_limit < length after) → IsNoAnswer text
  faulty_body : (status : ℕ) (fields : Fields) (after : List ℕ) (how : BodyFraming) (reason : RequestFault) (frames : FramesAnswer text status fields after (Some (Framing how))) (faulty : IsFaultyBody how after reason) → IsNoAnswer text

-- ---- what a try gets

-- the answer is that of the whole input; where there is none, nothing is said of it
abbrev pub Gets : List ℕ → TryAnswer → Type 0
Gets input NoAnswer = ⊤
Gets input (Reply status fields body) = AnswerIn input status fields body

-- there is an answer
abbrev pub is_answered : TryAnswer → Bool
is_answered NoAnswer = false
is_answered (Reply status fields body) = true
