-- The request of a text that comes in pieces is the one that the whole text begins with.
use Rattle.std.proofs.Common.{◌≡◌, ◌+◌, ◌<◌, ◌≤◌, ℕ, zero, suc, Bool, true, false, List, [], ◌∷◌, ◌++◌, length, take, drop, ◌-◌, Option, Some, None, Result, Ok, Err, refl, sym, ap, ◌∙◌, subst, arith}
use Rattle.std.specs.Prelude.{is_none, IfOk, IfErr}
use Rattle.std.proofs.lemmas.List.{length-drop, drop-drop}
use Rattle.as2_framing.specs.HeadText.{unblank, up_to_empty_line, window, HasHeadText}
use Rattle.as2_framing.specs.HeadPieces.{HoldsHead}
use Rattle.as2_framing.specs.declared.body.BodyFraming.{BodyFraming}
use Rattle.as2_framing.specs.BodyPieces.{FeedsBody, HoldsBody, IsMissing}
use Rattle.as2_framing.specs.declared.chunked.BodyPiece.{BodyPiece}
use Rattle.as2_framing.specs.declared.chunked.BodyPiece.TheVariants as fed
use Rattle.as2_framing.proofs.Bodies.{body_more, body_open}
use Rattle.as2_framing.specs.declared.body.MissingBody.{MissingBody}
use Rattle.as2_messages.specs.Parsing.{Awaits, FeedsRequest, RefusesHead, HasTakenBy, HasTaken, HasHead, EndsRequest, TellsBlank}
use Rattle.as2_messages.specs.Reading.{Judges}
use Rattle.as2_messages.specs.Requests.{Fields, Frames, BeginsRequest, BeginsNoRequest, framing, faulty_body, IsOpen, in_head, in_body, body_framing, is_head, is_last_request}
use Rattle.as2_messages.specs.declared.framing.Method.{Method}
use Rattle.as2_messages.specs.declared.framing.Refused.{Refused}
use Rattle.as2_messages.specs.declared.framing.RequestFault.{RequestFault}
use Rattle.as2_framing.specs.declared.head_bytes.HeadBytes.{HeadBytes}
use Rattle.as2_messages.specs.declared.parser.Awaited.{Awaited}
use Rattle.as2_messages.specs.declared.parser.NotAwaited.{NotAwaited}
use Rattle.as2_messages.specs.declared.parser.NotAwaited.TheVariants as not_awaited
use Rattle.as2_messages.specs.declared.parser.RequestParser.{RequestParser}
use Rattle.as2_messages.specs.declared.request.Judged.{Judged}
use Rattle.as2_messages.proofs.Framed.{frames_append}
use Rattle.as2_framing.proofs.Heads.{line_end, cut_of}
use Rattle.as2_framing.proofs.Feeding.{rest_of, short_window}

-- ---- a head

-- what a head says of the text in front of which it stands
pub judged_frames : (text bytes after : List ℕ) (j : Judged) → HasHeadText text bytes after → (q : Judges bytes j) → Frames text q.head j.fields after j.framing
judged_frames text bytes after j found q = record {
  bytes = bytes;
  found = found;
  reads = q.reads;
  framed = ap (λ (m : Method). body_framing q.head.minor m j.fields) (sym q.method) ∙ q.framing;
}

pub judged_refused : (text bytes after : List ℕ) (j : Judged) (reason : RequestFault) (to_head : Bool) → HasHeadText text bytes after → Judges bytes j
    → j.framing ≡ Err reason → to_head ≡ is_head j.method
    → BeginsNoRequest text (record { reason = reason; to_head = to_head })
judged_refused text bytes after j reason to_head found q is same =
    framing q.head j.fields after
    (subst (λ (l : Result BodyFraming RequestFault). Frames text q.head j.fields after l) is (judged_frames text bytes after j found q))
    (same ∙ ap is_head q.method)

-- the bytes that were refused are those of the head
pub head_refused : (bytes head : List ℕ) (r : Result Awaited NotAwaited) (n : NotAwaited) (refused : Refused) → IfErr r (RefusesHead bytes) → r ≡ Err n
    → n ≡ not_awaited.Refused refused → bytes ≡ head
    → (text after : List ℕ) → HasHeadText text head after → BeginsNoRequest text refused
head_refused bytes head (Ok a) n refused h is same from text after found = absurd cc
head_refused bytes head (Err m) n refused h is same from text after found =
    let e : m ≡ not_awaited.Refused refused = (let f : Err m ≡ Err n = is in cc) in
    subst (RefusesHead bytes) e h text after (subst (λ (b : List ℕ). HasHeadText text b after) (sym from) found)

-- where no head ended yet
pub head_open : (h : HeadBytes) (text : List ℕ) → HoldsHead h text → IsOpen text
head_open h text k = in_head (ap up_to_empty_line (short_window text (omega (arith, k.short)) ∙ k.holds.behind) ∙ k.holds.none) k.short

-- ---- a body

-- before any of it came
pub judged_awaits : (text bytes after : List ℕ) (j : Judged) (a : Awaited) (how : BodyFraming) → HasHeadText text bytes after → Judges bytes j
    → j.framing ≡ Ok how → a.request.fields ≡ j.fields → a.request.method ≡ j.method
    → a.request.target ≡ j.target → a.request.last ≡ j.last → a.request.body ≡ [] → HoldsBody a.missing how [] after after → Awaits a text after
judged_awaits text bytes after j a how found q is fields method target last none held = record {
  head = q.head;
  after = after;
  how = how;
  frames = subst (λ (f : Fields). Frames text q.head f after (Ok how)) (sym fields)
      (subst (λ (l : Result BodyFraming RequestFault). Frames text q.head j.fields after l) is (judged_frames text bytes after j found q));
  holds = subst (λ (b : List ℕ). HoldsBody a.missing how b after after) (sym none) held;
  method = method ∙ q.method;
  target = target ∙ q.target;
  last = last ∙ q.last ∙ ap (is_last_request q.head.minor) (sym fields);
}

-- while some of it is missing
pub awaits_open : (a : Awaited) (text : List ℕ) → IsMissing a.missing → Awaits a text [] → IsOpen text
awaits_open a text some w = in_body w.head a.request.fields w.after w.how w.frames (body_open a.missing w.how a.request.body w.after some w.holds)

-- a piece more
pub awaits_more : (a : Awaited) (text more : List ℕ) → Awaits a text [] → Awaits a (text ++ more) more
awaits_more a text more w = record {
  head = w.head;
  after = w.after ++ more;
  how = w.how;
  frames = frames_append text more w.head a.request.fields w.after (Ok w.how) w.frames;
  holds = body_more a.missing w.how a.request.body w.after more w.holds;
  method = w.method;
  target = w.target;
  last = w.last;
}

-- the rest of a piece
pub feeds_request : (old new : Awaited) (text rest : List ℕ) (f : BodyPiece) → new.request.fields ≡ old.request.fields
    → new.request.method ≡ old.request.method → new.request.target ≡ old.request.target → new.request.last ≡ old.request.last
    → ((how : BodyFraming) (t : List ℕ) → HoldsBody old.missing how old.request.body t rest → FeedsBody old.missing new.missing how new.request.body t rest f)
    → Awaits old text rest → FeedsRequest old new text rest f
feeds_request old new text rest fed.Open fields method target last feeds w =
    let k = feeds w.how w.after w.holds in (
      k.0,
      in_body w.head old.request.fields w.after w.how w.frames k.1,
      record {
        head = w.head;
        after = w.after;
        how = w.how;
        frames = subst (λ (f : Fields). Frames text w.head f w.after (Ok w.how)) (sym fields) w.frames;
        holds = k.2;
        method = method ∙ w.method;
        target = target ∙ w.target;
        last = last ∙ w.last ∙ ap (is_last_request w.head.minor) (sym fields);
      },
    )
feeds_request old new text rest (fed.Whole n) fields method target last feeds w =
    let k = feeds w.how w.after w.holds in (
      k.0,
      k.1,
      record {
        head = w.head;
        after = w.after;
        how = w.how;
        frames = subst (λ (f : Fields). Frames text w.head f w.after (Ok w.how)) (sym fields) w.frames;
        begins = k.2;
        method = method ∙ w.method;
        target = target ∙ w.target;
        last = last ∙ w.last ∙ ap (is_last_request w.head.minor) (sym fields);
      },
    )
feeds_request old new text rest fed.Bad fields method target last feeds w =
    faulty_body w.head old.request.fields w.after w.how w.frames (feeds w.how w.after w.holds) (ap is_head (method ∙ w.method))
feeds_request old new text rest fed.TooLarge fields method target last feeds w =
    faulty_body w.head old.request.fields w.after w.how w.frames (feeds w.how w.after w.holds) (ap is_head (method ∙ w.method))

-- the same of a piece behind its front
pub fed_as : (old new : Awaited) (bytes : List ℕ) (from : ℕ) (f g : BodyPiece) → f ≡ g
    → ((text : List ℕ) → Awaits old text (take (length bytes - from) (drop from bytes))
    → FeedsRequest old new text (take (length bytes - from) (drop from bytes)) f)
    → (text : List ℕ) → Awaits old text (drop from bytes) → FeedsRequest old new text (drop from bytes) g
fed_as old new bytes from f g is feeds text w =
    subst (λ (x : BodyPiece). FeedsRequest old new text (drop from bytes) x) is
    (subst (λ (rest : List ℕ). (t : List ℕ) → Awaits old t rest → FeedsRequest old new t rest f) (rest_of from bytes) feeds text w)

pub awaited_fed : {E : Type 0} (old new : Awaited) (rest : List ℕ) (r : Result BodyPiece E) → new.request.fields ≡ old.request.fields
    → new.request.method ≡ old.request.method → new.request.target ≡ old.request.target → new.request.last ≡ old.request.last
    → IfOk r (λ f. (how : BodyFraming) (t : List ℕ) → HoldsBody old.missing how old.request.body t rest
    → FeedsBody old.missing new.missing how new.request.body t rest f)
    → IfOk r (λ f. (text : List ℕ) → Awaits old text rest → FeedsRequest old new text rest f)
awaited_fed old new rest (Ok f) fields method target last feeds = λ text w. feeds_request old new text rest f fields method target last feeds w
awaited_fed old new rest (Err e) fields method target last feeds = tt

some_used : (m : MissingBody) (from used : ℕ) → (from ≡ 0 → IsMissing m) → (IsMissing m → 0 < used) → 0 < from + used
some_used m zero used missing some = omega (arith, some (missing refl))
some_used m (suc n) used missing some = omega arith

pub ends_request : (p : RequestParser) (old new : Awaited) (text bytes : List ℕ) (from used : ℕ) → p.awaited ≡ None → from ≤ length bytes
    → HasHead p.head old text bytes from
    → FeedsRequest old new (text ++ bytes) (drop from bytes) (fed.Whole used) → EndsRequest p text bytes new.request (from + used)
ends_request p old new text bytes from used none le f whole = record {
  some = some_used old.missing from used f.some whole.0;
  within = omega (arith, whole.1, length-drop from bytes, le);
  begins = subst (λ (rest : List ℕ). BeginsRequest (text ++ bytes) new.request rest) (drop-drop used from bytes) whole.2;
  empty = subst (λ (a : Option Awaited). HasTakenBy p.head a []) (sym none) f.empty;
}

-- ---- between pieces

open_by : (head : HeadBytes) (o : Option Awaited) (text : List ℕ) → HasTakenBy head o text → IsOpen text
open_by head None text h = head_open head text h
open_by head (Some a) text h = awaits_open a text h.1 h.2

-- a request isn't whole yet
pub holds_open : (p : RequestParser) (text : List ℕ) → HasTaken p text → IsOpen text
holds_open p text h = open_by p.head p.awaited text h

pub held_head : (p : RequestParser) (text : List ℕ) → p.awaited ≡ None → HasTaken p text → HoldsHead p.head text
held_head p text none h = subst (λ (o : Option Awaited). HasTakenBy p.head o text) none h

pub when_ok : {A E : Type 0} (P Q : A → Type 0) (r : Result A E) → ((a : A) → P a → Q a) → IfOk r P → IfOk r Q
when_ok P Q (Ok a) f p = f a p
when_ok P Q (Err e) f p = tt

pub framed_again : (p : RequestParser) (a : Awaited) (text bytes : List ℕ) → p.awaited ≡ Some a → HasTaken p text → HasHead p.head a text bytes 0
framed_again p a text bytes is h =
    let k : HasTakenBy p.head (Some a) text = subst (λ (o : Option Awaited). HasTakenBy p.head o text) is h in
    record { empty = k.0; some = λ is. k.1; awaits = awaits_more a text bytes k.2 }

-- no head is empty
nothing_ends : (text : List ℕ) → up_to_empty_line (window text) ≡ Some 0 → ⊥
nothing_ends text h =
    let l = line_end (window text) 0 h in absurd (omega (arith, l.1, cut_of (window text) l.0))

has_head_bytes : (text bytes after : List ℕ) → HasHeadText text bytes after → unblank text ≡ [] → ⊥
has_head_bytes text [] after h none = nothing_ends text h.0
has_head_bytes text (b ∷ bytes) after h none = let e : b ∷ (bytes ++ after) ≡ [] = sym h.1 ∙ none in absurd cc

pub tells_not_blank : (head : HeadBytes) (o : Option Awaited) (text : List ℕ) (b : Bool) → b ≡ is_none o → b ≡ false → HasTakenBy head o text
    → TellsBlank text b
tells_not_blank head None text b is off h = let e : true ≡ false = sym is ∙ off in absurd cc
tells_not_blank head (Some a) text b is off h = rw off (has_head_bytes text h.2.frames.bytes h.2.after h.2.frames.found)

pub told_blank : (text : List ℕ) (b c : Bool) → b ≡ c → TellsBlank text b → TellsBlank text c
told_blank text b c e t = subst (TellsBlank text) e t
