-- A text begins with one thing at most.
use Rattle.std.proofs.Common.{◌≡◌, ℕ, Bool, List, [], map, Some, Result, Ok, Err, refl, sym, ap, ◌∙◌, subst, arith}
use Rattle.httparse.specs.Grammar.{RequestHead}
use Rattle.httparse.specs.Spans.{name_and_value}
use Rattle.httparse.proofs.GrammarLemmas.{request_unique}
use Rattle.as2_framing.specs.Bodies.{BeginsBody, IsOpenBody}
use Rattle.as2_framing.specs.declared.body.BodyFraming.{BodyFraming}
use Rattle.as2_framing.proofs.Bodies.{bad_not_large, body_not_bad, body_not_large, body_not_open, one_body, open_not_bad, open_not_large}
use Rattle.as2_framing.proofs.OneBody.{front_once}
use Rattle.as2_messages.specs.Framing.{IsFaultyBody}
use Rattle.as2_messages.specs.declared.framing.RequestFault.TheVariants.{BadHead, TransferCoding, BadLength, BadChunk, TooLarge, NoLength}
use Rattle.as2_framing.specs.HeadText.{HasHeadText, HasNoHeadText}
use Rattle.as2_messages.specs.Requests.{Fields, IsHead, Frames, too_long, no_head, framing, faulty_body, in_head, in_body, fields_behind, method_of, target_of, body_framing, is_last_request, is_head}
use Rattle.as2_messages.specs.Laws.{BeginsWithOne, RefusesInOneWay, NeverRefusesRequests, NeverOpensRequests, NeverOpensRefused}
use Rattle.as2_messages.specs.declared.framing.Method.{Method}
use Rattle.as2_messages.specs.declared.framing.Target.{Target}
use Rattle.as2_messages.specs.declared.framing.RequestFault.{RequestFault}
use Rattle.as2_messages.specs.declared.framing.Refused.{Refused}
use Rattle.as2_messages.specs.declared.request.Request.{Request}

pub one_head_text : (text a b x y : List ℕ) → HasHeadText text a x → HasHeadText text b y → (a ≡ b) × (x ≡ y)
one_head_text text a b x y h k = front_once a b x y (cc (sym h.0 ∙ k.0)) (sym h.1 ∙ k.1)

no_head_text : (text a x : List ℕ) → HasHeadText text a x → HasNoHeadText text → ⊥
no_head_text text a x h none = absurd (cc (sym h.0 ∙ none))

one_head : (bytes : List ℕ) (h k : RequestHead) (fields others : Fields) → IsHead bytes h fields → IsHead bytes k others → (h ≡ k) × (fields ≡ others)
one_head bytes h k fields others x y =
    let same : h ≡ k = (request_unique bytes h k [] [] x.0 y.0).0 in
    let e : Some fields ≡ Some others = sym x.1 ∙ ap (λ (r : RequestHead). fields_behind [] (map name_and_value r.fields)) same ∙ y.1 in
    (same, cc e)

-- one head stands at the front, and says one thing of the body
one_frame : (text : List ℕ) (h k : RequestHead) (fields others : Fields) (x y : List ℕ) (m n : Result BodyFraming RequestFault)
    → Frames text h fields x m → Frames text k others y n → (h ≡ k) × (fields ≡ others) × (x ≡ y) × (m ≡ n)
one_frame text h k fields others x y m n f g =
    let t = one_head_text text f.bytes g.bytes x y f.found g.found in
    let s = one_head g.bytes h k fields others (subst (λ (b : List ℕ). IsHead b h fields) t.0 f.reads) g.reads in
    let e : body_framing h.minor (method_of h.method) fields ≡ body_framing k.minor (method_of k.method) others =
    ap (λ (r : RequestHead). body_framing r.minor (method_of r.method) fields) s.0 ∙ ap (body_framing k.minor (method_of k.method)) s.1 in
    (s.0, s.1, t.1, sym f.framed ∙ e ∙ g.framed)

abbrev request : Method → Target → Fields → List ℕ → Bool → Request
request m t f b l = record { method = m; target = t; fields = f; body = b; last = l }

same_request : (r q : Request) → r.method ≡ q.method → r.target ≡ q.target → r.fields ≡ q.fields → r.body ≡ q.body → r.last ≡ q.last → r ≡ q
same_request r q method target fields body last =
    let e : request r.method r.target r.fields r.body r.last ≡ request q.method q.target q.fields q.body q.last = cc in e

abbrev refused_as : RequestFault → Bool → Refused
refused_as reason to_head = record { reason = reason; to_head = to_head }

same_refused : (a b : Refused) → a.reason ≡ b.reason → a.to_head ≡ b.to_head → a ≡ b
same_refused a b reason to_head = let e : refused_as a.reason a.to_head ≡ refused_as b.reason b.to_head = cc in e

-- what is said of a body, of that body
pub there : (h k : BodyFraming) (x y : List ℕ) (P : BodyFraming → List ℕ → Type 0) → h ≡ k → x ≡ y → P h x → P k y
there h k x y P how same p = subst (λ (t : List ℕ). P k t) same (subst (λ (f : BodyFraming). P f x) how p)

-- a body is faulty in one way
one_fault : (how : BodyFraming) (text : List ℕ) (one other : RequestFault) → IsFaultyBody how text one → IsFaultyBody how text other → one ≡ other
one_fault how text BadChunk BadChunk a b = refl
one_fault how text TooLarge TooLarge a b = refl
one_fault how text BadChunk TooLarge a b = absurd (bad_not_large how text a b)
one_fault how text TooLarge BadChunk a b = absurd (bad_not_large how text b a)
one_fault how text BadChunk BadHead a b = absurd b
one_fault how text BadChunk TransferCoding a b = absurd b
one_fault how text BadChunk BadLength a b = absurd b
one_fault how text BadChunk NoLength a b = absurd b
one_fault how text TooLarge BadHead a b = absurd b
one_fault how text TooLarge TransferCoding a b = absurd b
one_fault how text TooLarge BadLength a b = absurd b
one_fault how text TooLarge NoLength a b = absurd b
one_fault how text BadHead other a b = absurd a
one_fault how text TransferCoding other a b = absurd a
one_fault how text BadLength other a b = absurd a
one_fault how text NoLength other a b = absurd a

-- a body that is there isn't faulty, and no faulty one is open
pub body_not_faulty : (how : BodyFraming) (text body rest : List ℕ) (reason : RequestFault) → BeginsBody how text body rest → IsFaultyBody how text reason → ⊥
body_not_faulty how text body rest BadChunk b f = body_not_bad how text body rest b f
body_not_faulty how text body rest TooLarge b f = body_not_large how text body rest b f
body_not_faulty how text body rest BadHead b f = f
body_not_faulty how text body rest TransferCoding b f = f
body_not_faulty how text body rest BadLength b f = f
body_not_faulty how text body rest NoLength b f = f

pub faulty_not_open : (how : BodyFraming) (text : List ℕ) (reason : RequestFault) → IsFaultyBody how text reason → IsOpenBody how text → ⊥
faulty_not_open how text BadChunk f undecided = open_not_bad how text undecided f
faulty_not_open how text TooLarge f undecided = open_not_large how text undecided f
faulty_not_open how text BadHead f undecided = f
faulty_not_open how text TransferCoding f undecided = f
faulty_not_open how text BadLength f undecided = f
faulty_not_open how text NoLength f undecided = f

pub begins_with_one : BeginsWithOne
begins_with_one text r q rest other b c =
    let f = one_frame text b.head c.head r.fields q.fields b.after c.after (Ok b.how) (Ok c.how) b.frames c.frames in
    let how : b.how ≡ c.how = cc f.3 in
    let parts = one_body c.how c.after r.body rest q.body other
    (there b.how c.how b.after c.after (λ (h : BodyFraming) (t : List ℕ). BeginsBody h t r.body rest) how f.2 b.begins) c.begins in (
      same_request r q
          (b.method ∙ ap (λ (h : RequestHead). method_of h.method) f.0 ∙ sym c.method)
          (b.target ∙ ap (λ (h : RequestHead). target_of h.target) f.0 ∙ sym c.target)
          f.1 parts.0
          (b.last ∙ ap (λ (h : RequestHead). is_last_request h.minor r.fields) f.0 ∙ ap (is_last_request c.head.minor) f.1 ∙ sym c.last),
      parts.1,
    )

-- bytes that are no head are the bytes of no frame
no_frame : (text bytes after : List ℕ) → HasHeadText text bytes after → ((head : RequestHead) (fields : Fields) → ¬ (IsHead bytes head fields))
    → (h : RequestHead) (fields : Fields) (x : List ℕ) (m : Result BodyFraming RequestFault) → Frames text h fields x m → ⊥
no_frame text bytes after found never h fields x m f =
    let t = one_head_text text f.bytes bytes x after f.found found in
    never h fields (subst (λ (b : List ℕ). IsHead b h fields) t.0 f.reads)

pub refuses_in_one_way : RefusesInOneWay
refuses_in_one_way text a b (too_long none long is) (too_long other more same) = is ∙ sym same
refuses_in_one_way text a b (too_long none long is) (no_head bytes after found never same) = is ∙ sym same
refuses_in_one_way text a b (too_long none long is) (framing head fields after frames same) = absurd (no_head_text text frames.bytes after frames.found none)
refuses_in_one_way text a b (too_long none long is) (faulty_body head fields after how frames faulty same) =
    absurd (no_head_text text frames.bytes after frames.found none)
refuses_in_one_way text a b (no_head bytes after found never is) (too_long other more same) = is ∙ sym same
refuses_in_one_way text a b (no_head bytes after found never is) (no_head others y place nowhere same) = is ∙ sym same
refuses_in_one_way text a b (no_head bytes after found never is) (framing head fields y frames same) =
    absurd (no_frame text bytes after found never head fields y (Err b.reason) frames)
refuses_in_one_way text a b (no_head bytes after found never is) (faulty_body head fields y how frames faulty same) =
    absurd (no_frame text bytes after found never head fields y (Ok how) frames)
refuses_in_one_way text a b (framing head fields after frames is) (too_long none long same) = absurd (no_head_text text frames.bytes after frames.found none)
refuses_in_one_way text a b (framing head fields after frames is) (no_head bytes y found never same) =
    absurd (no_frame text bytes y found never head fields after (Err a.reason) frames)
refuses_in_one_way text a b (framing h fields x f is) (framing k others y g same) =
    let e = one_frame text h k fields others x y (Err a.reason) (Err b.reason) f g in
    same_refused a b (cc e.3) (is ∙ ap (λ (r : RequestHead). is_head (method_of r.method)) e.0 ∙ sym same)
refuses_in_one_way text a b (framing h fields x f is) (faulty_body k others y how g faulty same) =
    let e = one_frame text h k fields others x y (Err a.reason) (Ok how) f g in absurd (cc e.3)
refuses_in_one_way text a b (faulty_body head fields after how frames faulty is) (too_long none long same) =
    absurd (no_head_text text frames.bytes after frames.found none)
refuses_in_one_way text a b (faulty_body head fields after how frames faulty is) (no_head bytes y found never same) =
    absurd (no_frame text bytes y found never head fields after (Ok how) frames)
refuses_in_one_way text a b (faulty_body h fields x how f faulty is) (framing k others y g same) =
    let e = one_frame text h k fields others x y (Ok how) (Err b.reason) f g in absurd (cc e.3)
refuses_in_one_way text a b (faulty_body h fields x how f faulty is) (faulty_body k others y other g bad same) =
    let e = one_frame text h k fields others x y (Ok how) (Ok other) f g in
    let one : how ≡ other = cc e.3 in
    same_refused a b (one_fault other y a.reason b.reason
    (there how other x y (λ (h : BodyFraming) (t : List ℕ). IsFaultyBody h t a.reason) one e.2 faulty) bad)
    (is ∙ ap (λ (r : RequestHead). is_head (method_of r.method)) e.0 ∙ sym same)

pub never_refuses_requests : NeverRefusesRequests
never_refuses_requests text r rest refused b (too_long none long is) = no_head_text text b.frames.bytes b.after b.frames.found none
never_refuses_requests text r rest refused b (no_head bytes after found never is) =
    no_frame text bytes after found never b.head r.fields b.after (Ok b.how) b.frames
never_refuses_requests text r rest refused b (framing k fields x g is) =
    let e = one_frame text b.head k r.fields fields b.after x (Ok b.how) (Err refused.reason) b.frames g in
    absurd (cc e.3)
never_refuses_requests text r rest refused b (faulty_body k fields x how g faulty is) =
    let e = one_frame text b.head k r.fields fields b.after x (Ok b.how) (Ok how) b.frames g in
    body_not_faulty how x r.body rest refused.reason
    (there b.how how b.after x (λ (h : BodyFraming) (t : List ℕ). BeginsBody h t r.body rest) (cc e.3) e.2 b.begins) faulty

pub never_opens_requests : NeverOpensRequests
never_opens_requests text r rest b (in_head none short) = no_head_text text b.frames.bytes b.after b.frames.found none
never_opens_requests text r rest b (in_body k fields x how g undecided) =
    let e = one_frame text b.head k r.fields fields b.after x (Ok b.how) (Ok how) b.frames g in
    body_not_open how x r.body rest (there b.how how b.after x (λ (h : BodyFraming) (t : List ℕ). BeginsBody h t r.body rest) (cc e.3) e.2 b.begins) undecided

pub never_opens_refused : NeverOpensRefused
never_opens_refused text refused (too_long none long is) (in_head other short) = absurd (omega (arith, long, short))
never_opens_refused text refused (too_long none long is) (in_body k fields x how g undecided) = no_head_text text g.bytes x g.found none
never_opens_refused text refused (no_head bytes after found never is) (in_head none short) = no_head_text text bytes after found none
never_opens_refused text refused (no_head bytes after found never is) (in_body k fields x how g undecided) =
    no_frame text bytes after found never k fields x (Ok how) g
never_opens_refused text refused (framing h fields x f is) (in_head none short) = no_head_text text f.bytes x f.found none
never_opens_refused text refused (framing h fields x f is) (in_body k others y how g undecided) =
    let e = one_frame text h k fields others x y (Err refused.reason) (Ok how) f g in absurd (cc e.3)
never_opens_refused text refused (faulty_body h fields x how f faulty is) (in_head none short) = no_head_text text f.bytes x f.found none
never_opens_refused text refused (faulty_body h fields x how f faulty is) (in_body k others y other g undecided) =
    let e = one_frame text h k fields others x y (Ok how) (Ok other) f g in
    faulty_not_open other y refused.reason
    (there how other x y (λ (h : BodyFraming) (t : List ℕ). IsFaultyBody h t refused.reason) (cc e.3) e.2 faulty) undecided
