-- An input holds one answer at most.
use Rattle.std.proofs.Common.{◌≡◌, ℕ, ◌≤◌, List, [], length, map, Option, Some, None, sym, ap, ◌∙◌, subst, arith, inl, inr}
use Rattle.httparse.specs.Grammar.{ResponseHead, status_code}
use Rattle.httparse.specs.Spans.{name_and_value}
use Rattle.httparse.proofs.GrammarLemmas.{response_unique}
use Rattle.as2_messages.specs.Answering.{IsAnswerHead, body_end, FramesAnswer, BeginsAnswer, AnswerIn, by_length, by_end, in_head, in_body, too_long, no_head, no_body, too_large, faulty_body}
use Rattle.as2_messages.specs.AnswerLaws.{HoldsOneAnswer, NeverAnswers, NeverOpensAnswers, NeverOpensNone}
use Rattle.as2_framing.specs.Bodies.{BeginsBody}
use Rattle.as2_framing.specs.Chunks.{body_limit}
use Rattle.as2_framing.specs.declared.body.BodyFraming.{BodyFraming}
use Rattle.as2_framing.proofs.Bodies.{body_not_open, one_body}
use Rattle.as2_framing.specs.HeadText.{HasHeadText, HasNoHeadText}
use Rattle.as2_messages.specs.Framing.{IsFaultyBody}
use Rattle.as2_messages.specs.Requests.{Fields, fields_behind}
use Rattle.as2_messages.specs.declared.answer_head.BodyEnd.{BodyEnd}
use Rattle.as2_messages.specs.declared.answer_head.BodyEnd.TheVariants.{Framing, WithInput}
use Rattle.as2_messages.proofs.Alone.{body_not_faulty, faulty_not_open, one_head_text, there}

one_head : (bytes : List ℕ) (h k : ResponseHead) (fields others : Fields) → IsAnswerHead bytes h fields → IsAnswerHead bytes k others → (h ≡ k)
    × (fields ≡ others)
one_head bytes h k fields others x y =
    let same : h ≡ k = (response_unique bytes h k [] [] x.0 y.0).0 in
    let e : Some fields ≡ Some others = sym x.1 ∙ ap (λ (r : ResponseHead). fields_behind [] (map name_and_value r.fields)) same ∙ y.1 in
    (same, cc e)

-- one head stands at the front, and says one thing of the body
one_frame : (text : List ℕ) (s t : ℕ) (fields others : Fields) (x y : List ℕ) (m n : Option BodyEnd)
    → FramesAnswer text s fields x m → FramesAnswer text t others y n → (s ≡ t) × (fields ≡ others) × (x ≡ y) × (m ≡ n)
one_frame text s t fields others x y m n f g =
    let at = one_head_text text f.bytes g.bytes x y f.found g.found in
    let h = one_head g.bytes f.head g.head fields others (subst (λ (b : List ℕ). IsAnswerHead b f.head fields) at.0 f.reads) g.reads in
    let code : s ≡ t = f.code ∙ ap status_code h.0 ∙ sym g.code in (
      code,
      h.1,
      at.1,
      sym f.ends ∙ ap (λ (c : ℕ). body_end c f.head.minor fields) code ∙ ap (λ (r : ResponseHead). body_end t r.minor fields) h.0
          ∙ ap (body_end t g.head.minor) h.1 ∙ g.ends,
    )

-- a body that has its length
one_begun : (input : List ℕ) (s t : ℕ) (f g : Fields) (b c rest other : List ℕ) → BeginsAnswer input s f b rest → BeginsAnswer input t g c other → (s ≡ t)
    × (f ≡ g) × (b ≡ c)
one_begun input s t f g b c rest other x y =
    let e = one_frame input s t f g x.after y.after (Some (Framing x.how)) (Some (Framing y.how)) x.frames y.frames in
    let how : x.how ≡ y.how = cc e.3 in (
      e.0,
      e.1,
      (one_body y.how y.after b rest c other
          (there x.how y.how x.after y.after (λ (h : BodyFraming) (t : List ℕ). BeginsBody h t b rest) how e.2 x.begins) y.begins).0,
    )

pub holds_one : HoldsOneAnswer
holds_one input s t f g b c (by_length rest x) (by_length other y) = one_begun input s t f g b c rest other x y
holds_one input s t f g b c (by_end x) (by_end y) =
    let e = one_frame input s t f g b c (Some WithInput) (Some WithInput) x.frames y.frames in (e.0, e.1, e.2)
holds_one input s t f g b c (by_length rest x) (by_end y) =
    let e = one_frame input s t f g x.after c (Some (Framing x.how)) (Some WithInput) x.frames y.frames in absurd (cc e.3)
holds_one input s t f g b c (by_end x) (by_length rest y) =
    let e = one_frame input s t f g b y.after (Some WithInput) (Some (Framing y.how)) x.frames y.frames in absurd (cc e.3)

-- the end of a body, and what stands there of it
abbrev HasBody : BodyEnd → List ℕ → List ℕ → Type 0
HasBody (Framing how) after body = (rest : List ℕ) × BeginsBody how after body rest
HasBody WithInput after body = length after ≤ body_limit

-- an answer's head, and what follows it
record HasFrame (input : List ℕ) (s : ℕ) (f : Fields) (b : List ℕ) : Type 0 where
  pub after : List ℕ
  pub end : BodyEnd
  pub frames : FramesAnswer input s f after (Some end)
  pub body : HasBody end after b

frame_of : (input : List ℕ) (s : ℕ) (f : Fields) (b : List ℕ) → AnswerIn input s f b → HasFrame input s f b
frame_of input s f b (by_length rest x) = record { after = x.after; end = Framing x.how; frames = x.frames; body = (rest, x.begins) }
frame_of input s f b (by_end x) = record { after = b; end = WithInput; frames = x.frames; body = x.short }

pub never_answers : NeverAnswers
never_answers input s f b (too_long none long) a =
    let w = frame_of input s f b a in absurd (cc (sym w.frames.found.0 ∙ none))
never_answers input s f b (no_head bytes after found never) a =
    let w = frame_of input s f b a in
    let at = one_head_text input w.frames.bytes bytes w.after after w.frames.found found in
    never w.frames.head f (subst (λ (t : List ℕ). IsAnswerHead t w.frames.head f) at.0 w.frames.reads)
never_answers input s f b (no_body t g after frames) a =
    let w = frame_of input s f b a in
    let e = one_frame input s t f g w.after after (Some w.end) None w.frames frames in absurd (cc e.3)
never_answers input s f b (too_large t g after frames large) a =
    let w = frame_of input s f b a in
    let e = one_frame input s t f g w.after after (Some w.end) (Some WithInput) w.frames frames in
    let same : w.end ≡ WithInput = cc e.3 in
    let few : length w.after ≤ body_limit = subst (λ (x : BodyEnd). HasBody x w.after b) same w.body in
    absurd (omega (arith, few, large, ap length e.2))
never_answers input s f b (faulty_body t g after how reason frames faulty) a =
    let w = frame_of input s f b a in
    let e = one_frame input s t f g w.after after (Some w.end) (Some (Framing how)) w.frames frames in
    let same : w.end ≡ Framing how = cc e.3 in
    let at : HasBody (Framing how) after b = subst (λ (t : List ℕ). HasBody (Framing how) t b) e.2 (subst (λ (x : BodyEnd). HasBody x w.after b) same w.body) in
    body_not_faulty how after b at.0 reason at.1 faulty

-- ---- what is awaited

unframed : (text : List ℕ) (s : ℕ) (f : Fields) (after : List ℕ) (end : Option BodyEnd) → FramesAnswer text s f after end → HasNoHeadText text → ⊥
unframed text s f after end w none = absurd (cc (sym w.found.0 ∙ none))

-- bytes that are no head are the bytes of no frame
no_frame : (text bytes after : List ℕ) → HasHeadText text bytes after → ((head : ResponseHead) (fields : Fields) → ¬ (IsAnswerHead bytes head fields))
    → (s : ℕ) (f : Fields) (x : List ℕ) (end : Option BodyEnd) → FramesAnswer text s f x end → ⊥
no_frame text bytes after found never s f x end w =
    let at = one_head_text text w.bytes bytes x after w.found found in never w.head f (subst (λ (t : List ℕ). IsAnswerHead t w.head f) at.0 w.reads)

pub never_opens_answers : NeverOpensAnswers
never_opens_answers text s f body rest b (inl (in_head none short)) = unframed text s f b.after (Some (Framing b.how)) b.frames none
never_opens_answers text s f body rest b (inl (in_body t g after how frames undecided)) =
    let e = one_frame text s t f g b.after after (Some (Framing b.how)) (Some (Framing how)) b.frames frames in
    body_not_open how after body rest
    (there b.how how b.after after (λ (h : BodyFraming) (u : List ℕ). BeginsBody h u body rest) (cc e.3) e.2 b.begins) undecided
never_opens_answers text s f body rest b (inr w) =
    let e = one_frame text s w.0 f w.1 b.after w.2 (Some (Framing b.how)) (Some WithInput) b.frames w.3.frames in absurd (cc e.3)

pub never_opens_none : NeverOpensNone
never_opens_none text (too_long none long) (inl (in_head other short)) = absurd (omega (arith, long, short))
never_opens_none text (too_long none long) (inl (in_body t g after how frames undecided)) = unframed text t g after (Some (Framing how)) frames none
never_opens_none text (too_long none long) (inr w) = unframed text w.0 w.1 w.2 (Some WithInput) w.3.frames none
never_opens_none text (no_head bytes after found never) (inl (in_head none short)) = absurd (cc (sym found.0 ∙ none))
never_opens_none text (no_head bytes after found never) (inl (in_body t g x how frames undecided)) =
    no_frame text bytes after found never t g x (Some (Framing how)) frames
never_opens_none text (no_head bytes after found never) (inr w) = no_frame text bytes after found never w.0 w.1 w.2 (Some WithInput) w.3.frames
never_opens_none text (no_body s f after frames) (inl (in_head none short)) = unframed text s f after None frames none
never_opens_none text (no_body s f after frames) (inl (in_body t g x how others undecided)) =
    let e = one_frame text s t f g after x None (Some (Framing how)) frames others in absurd (cc e.3)
never_opens_none text (no_body s f after frames) (inr w) = let e =
    one_frame text s w.0 f w.1 after w.2 None (Some WithInput) frames w.3.frames in absurd (cc e.3)
never_opens_none text (too_large s f after frames large) (inl (in_head none short)) = unframed text s f after (Some WithInput) frames none
never_opens_none text (too_large s f after frames large) (inl (in_body t g x how others undecided)) =
    let e = one_frame text s t f g after x (Some WithInput) (Some (Framing how)) frames others in absurd (cc e.3)
never_opens_none text (too_large s f after frames large) (inr w) =
    let e = one_frame text s w.0 f w.1 after w.2 (Some WithInput) (Some WithInput) frames w.3.frames in absurd (omega (arith, large, w.3.short, ap length e.2))
never_opens_none text (faulty_body s f after how reason frames faulty) (inl (in_head none short)) = unframed text s f after (Some (Framing how)) frames none
never_opens_none text (faulty_body s f after how reason frames faulty) (inl (in_body t g x other others undecided)) =
    let e = one_frame text s t f g after x (Some (Framing how)) (Some (Framing other)) frames others in
    faulty_not_open other x reason (there how other after x (λ (h : BodyFraming) (u : List ℕ). IsFaultyBody h u reason) (cc e.3) e.2 faulty) undecided
never_opens_none text (faulty_body s f after how reason frames faulty) (inr w) =
    let e = one_frame text s w.0 f w.1 after w.2 (Some (Framing how)) (Some WithInput) frames w.3.frames in absurd (cc e.3)
