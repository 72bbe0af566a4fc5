-- The head of an answer: the bytes are none where the parser found none of their length, or a head doesn't take its fields.
use Rattle.std.proofs.Common.{◌≡◌, ◌≤◌, ℕ, List, [], ◌++◌, length, map, take, Option, Some, None, Result, Ok, Err, refl, sym, ap, ◌∙◌, append-nil, arith}
use Rattle.std.proofs.lemmas.List.{length-map}
use Rattle.httparse.specs.Grammar.{ResponseHead, print_response}
use Rattle.httparse.specs.Spans.{FindsResponse, header_bytes, name_and_value}
use Rattle.httparse.specs.declared.Error.{Error}
use Rattle.httparse.specs.declared.Status.{Status}
use Rattle.httparse.specs.declared.Status.TheVariants.{Complete, Partial}
use Rattle.httparse.specs.declared.spans.HeaderSpan.{HeaderSpan}
use Rattle.httparse.specs.declared.spans.ResponseSpans.{ResponseSpans}
use Rattle.as2_messages.specs.Answering.{IsAnswerHead, FramesAnswer, BeginsAnswer}
use Rattle.as2_messages.specs.AnswerPieces.{JudgesAnswer}
use Rattle.as2_framing.specs.HeadText.{HasHeadText}
use Rattle.as2_messages.specs.Requests.{Fields, fields_behind}
use Rattle.as2_messages.specs.declared.answer_head.BodyEnd.{BodyEnd}
use Rattle.as2_messages.specs.declared.answer_head.BodyEnd.TheVariants.{Framing}
use Rattle.as2_framing.proofs.Bodies.{body_append}
use Rattle.as2_messages.specs.declared.answer_head.JudgedAnswer.{JudgedAnswer}
use Rattle.as2_framing.proofs.Heads.{head_append}
use Rattle.as2_messages.proofs.Judging.{appended_fits}

few_fields : (buf : List ℕ) (head : ResponseHead) (fields : Fields) → IsAnswerHead buf head fields → length head.fields ≤ 64
few_fields buf head fields h =
    omega (arith, length-map head.fields name_and_value, appended_fits [] (map name_and_value head.fields) fields (omega arith) h.1)

pub not_complete : (buf : List ℕ) (headers : List HeaderSpan) (r : Result (Status ResponseSpans) Error) → FindsResponse buf 64 headers r
    → ((s : ResponseSpans) → r ≡ Ok (Complete s) → ⊥)
    → (head : ResponseHead) (fields : Fields) → IsAnswerHead buf head fields → ⊥
not_complete buf headers (Ok (Complete s)) f not head fields h = absurd (not s refl)
not_complete buf headers (Ok Partial) f not head fields h = f head [] h.0 (few_fields buf head fields h)
not_complete buf headers (Err e) f not head fields h = f head [] h.0 (few_fields buf head fields h)

-- a head of another length
pub not_shorter : (buf : List ℕ) (headers : List HeaderSpan) (r : Result (Status ResponseSpans) Error) (s : ResponseSpans) → FindsResponse buf 64 headers r
    → r ≡ Ok (Complete s) → (s.len ≡ length buf → ⊥)
    → (head : ResponseHead) (fields : Fields) → IsAnswerHead buf head fields → ⊥
not_shorter buf headers (Ok (Complete q)) s f is other head fields h =
    let at = f head [] h.0 (few_fields buf head fields h) in
    let same : q ≡ s = cc in
    other (ap (λ (x : ResponseSpans). x.len) (sym same) ∙ at.len ∙ ap length (sym (h.0.1 ∙ append-nil (print_response head))))
not_shorter buf headers (Ok Partial) s f is other head fields h = absurd cc
not_shorter buf headers (Err e) s f is other head fields h = absurd cc

-- a head whose fields aren't taken
pub not_taken : (buf : List ℕ) (headers : List HeaderSpan) (r : Result (Status ResponseSpans) Error) (s : ResponseSpans) → FindsResponse buf 64 headers r
    → r ≡ Ok (Complete s)
    → fields_behind [] (map (header_bytes buf) (take s.headers headers)) ≡ None
    → (head : ResponseHead) (fields : Fields) → IsAnswerHead buf head fields → ⊥
not_taken buf headers (Ok (Complete q)) s f is none head fields h =
    let at = f head [] h.0 (few_fields buf head fields h) in
    let same : q ≡ s = cc in
    let e : map (header_bytes buf) (take s.headers headers) ≡ map name_and_value head.fields =
    ap (λ (x : ResponseSpans). map (header_bytes buf) (take x.headers headers)) (sym same) ∙ at.fields in
    absurd (cc (sym none ∙ ap (fields_behind []) e ∙ h.1))
not_taken buf headers (Ok Partial) s f is none head fields h = absurd cc
not_taken buf headers (Err e) s f is none head fields h = absurd cc

-- what a head says of the text in front of which it stands
pub judged_frames : (text bytes after : List ℕ) (j : JudgedAnswer) (end : Option BodyEnd) → HasHeadText text bytes after → JudgesAnswer bytes j → j.end ≡ end
    → FramesAnswer text j.status j.fields after end
judged_frames text bytes after j end found q is = record { head = q.head; bytes = bytes; found = found; reads = q.reads; code = q.code; ends = sym q.ends ∙ is }

pub frames_more : (text more : List ℕ) (status : ℕ) (fields : Fields) (after : List ℕ) (end : Option BodyEnd) → FramesAnswer text status fields after end
    → FramesAnswer (text ++ more) status fields (after ++ more) end
frames_more text more status fields after end f =
    record { head = f.head; bytes = f.bytes; found = head_append text more f.bytes after f.found; reads = f.reads; code = f.code; ends = f.ends }

pub begins_more : (text more : List ℕ) (status : ℕ) (fields : Fields) (body rest : List ℕ) → BeginsAnswer text status fields body rest
    → BeginsAnswer (text ++ more) status fields body (rest ++ more)
begins_more text more status fields body rest b = record {
  after = b.after ++ more;
  how = b.how;
  frames = frames_more text more status fields b.after (Some (Framing b.how)) b.frames;
  begins = body_append b.how b.after body rest more b.begins;
}
