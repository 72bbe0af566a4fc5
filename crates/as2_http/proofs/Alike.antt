-- A stream is served in one way.
use Rattle.std.proofs.Common.{◌≡◌, ◌⊎◌, ℕ, true, false, List, [], ◌∷◌, ◌++◌, Option, Some, refl, sym, ap, ◌∙◌, subst, inl, inr}
use Rattle.as2_agreement.specs.Agreements.{AgreedValues}
use Rattle.as2_exchange.specs.State.{State}
use Rattle.as2_exchange.specs.Step.{step}
use Rattle.as2_exchange.specs.declared.answer.Answer.{Answer}
use Rattle.as2_exchange.specs.declared.answer.Answer.TheVariants.{Http}
use Rattle.as2_exchange.specs.declared.answer.HttpAnswer.{HttpAnswer}
use Rattle.as2_framing.specs.HeadText.{unblank}
use Rattle.as2_http.specs.Notes.{SinkAndJournal}
use Rattle.as2_messages.specs.Replies.{IsReply}
use Rattle.as2_messages.specs.Requests.{BeginsNoRequest, IsOpen}
use Rattle.as2_http.specs.Responses.{RespondsTo, Responds, RespondsToPost, Unsaid, http_answer, post_event}
use Rattle.as2_http.specs.Sending.{form_of}
use Rattle.as2_http.specs.StreamLaws.{AreSound, AtJudged, IsSoundResponse, ServesInOneWay}
use Rattle.as2_http.specs.Streams.{RequestAndResponse, AnswersAll, EndsLast, StreamEnds, StayOpen}
use Rattle.as2_messages.specs.declared.framing.Refused.{Refused}
use Rattle.as2_messages.specs.declared.framing.Method.{Method}
use Rattle.as2_messages.specs.declared.framing.Method.TheVariants.{Post, Head, Other as OtherMethod}
use Rattle.as2_messages.specs.declared.framing.Target.{Target}
use Rattle.as2_messages.specs.declared.framing.Target.TheVariants.{Station, Other as OtherTarget}
use Rattle.as2_messages.specs.declared.request.Request.{Request}
use Rattle.as2_http.specs.declared.response.Response.{Response}
use Rattle.as2_http.specs.declared.response.Response.TheVariants.{Answered, Failed, OnlyPost, NoPath}
use Rattle.as2_http.specs.declared.stream.Served.{Served}
use Rattle.as2_http.specs.declared.stream.Served.TheVariants.{Closed, Truncated, BadFraming, ReadFault, WriteFault, Memory, TooLong}
use Rattle.as2_messages.proofs.Alone.{begins_with_one, never_refuses_requests, never_opens_requests, never_opens_refused}
use Rattle.as2_messages.proofs.Dated.{replies_in_one_way}

-- ---- one request

some_once : {X : Type 0} → (a b : X) → Some a ≡ Some b → a ≡ b
some_once a b e = cc

answers_once : (a b : HttpAnswer) → Http a ≡ Http b → Answered a ≡ Answered b
answers_once a b e = cc

steps_once : (came : Option (Answer × State)) (a b : HttpAnswer) (t u : State) → came ≡ Some (Http a, t) → came ≡ Some (Http b, u) → (Answered a ≡ Answered b)
    × (t ≡ u)
steps_once came a b t u x y = let both = some_once (Http a, t) (Http b, u) (sym x ∙ y) in (answers_once a b (ap (λ p. p.0) both), ap (λ p. p.1) both)

takes_once : (A : AgreedValues) (moment : ℕ) (s : State) (r : Request) (x y : Response) (t u : State) → RespondsToPost A moment s r x Unsaid t
    → RespondsToPost A moment s r y Unsaid u → IsSoundResponse x → IsSoundResponse y → (x ≡ y) × (t ≡ u)
takes_once A moment s r (Answered a) (Answered b) t u x y _ _ = steps_once (step A s (post_event r moment)) a b t u x.0 y.0
takes_once A moment s r (Answered a) (Failed f) t u x y _ failed = absurd failed
takes_once A moment s r (Answered a) OnlyPost t u x y _ _ = absurd y
takes_once A moment s r (Answered a) NoPath t u x y _ _ = absurd y
takes_once A moment s r (Failed f) b t u x y failed _ = absurd failed
takes_once A moment s r OnlyPost b t u x y _ _ = absurd x
takes_once A moment s r NoPath b t u x y _ _ = absurd x

responds_once : (A : AgreedValues) (moment : ℕ) (s : State) (r : Request) (m : Method) (at : Target) (x y : Response) (t u : State)
    → RespondsTo A moment m at s r x Unsaid t → RespondsTo A moment m at s r y Unsaid u → IsSoundResponse x → IsSoundResponse y → (x ≡ y) × (t ≡ u)
responds_once A moment s r Post Station x y t u p q a b = takes_once A moment s r x y t u p q a b
responds_once A moment s r Post OtherTarget x y t u p q a b = (p.0 ∙ sym q.0, p.1 ∙ sym q.1)
responds_once A moment s r Head at x y t u p q a b = (p.0 ∙ sym q.0, p.1 ∙ sym q.1)
responds_once A moment s r OtherMethod at x y t u p q a b = (p.0 ∙ sym q.0, p.1 ∙ sym q.1)

-- ---- all requests

-- no request stands behind these that is to be answered
abbrev Stops : List RequestAndResponse → List ℕ → Type 0
Stops [] rest = IsOpen rest ⊎ ((refused : Refused) × BeginsNoRequest rest refused)
Stops (x ∷ more) rest = ((x.0.last ≡ true) × (more ≡ [])) ⊎ ((x.0.last ≡ false) × Stops more rest)

stops_behind : (done : List RequestAndResponse) (rest : List ℕ) → StayOpen done → Stops [] rest → Stops done rest
stops_behind [] rest go stops = stops
stops_behind (x ∷ done) rest go stops = inr (go.0, stops_behind done rest go.1 stops)

stops_last : (before : List RequestAndResponse) (x : RequestAndResponse) (rest : List ℕ) → StayOpen before → x.0.last ≡ true → Stops (before ++ x ∷ []) rest
stops_last [] x rest go last = inl (last, refl)
stops_last (y ∷ before) x rest go last = inr (go.0, stops_last before x rest go.1 last)

abbrev IsOne : List RequestAndResponse → List RequestAndResponse → State → State → List ℕ → List ℕ → List ℕ → List ℕ → Type 0
IsOne done other t u replies same rest behind = (done ≡ other) × (t ≡ u) × (replies ≡ same) × (rest ≡ behind)

-- nothing more was answered
none_more : (A : AgreedValues) (moment : ℕ) (s t : State) (text replies rest : List ℕ) (more : List RequestAndResponse) → more ≡ []
    → AnswersAll A moment s text more t replies rest → (t ≡ s) × (replies ≡ []) × (rest ≡ text)
none_more A moment s t text replies rest more none a = subst (λ (d : List RequestAndResponse). AnswersAll A moment s text d t replies rest) none a

both_none : (A : AgreedValues) (moment : ℕ) (s t u : State) (text replies same rest behind : List ℕ) (more later : List RequestAndResponse) → more ≡ []
    → later ≡ []
    → AnswersAll A moment s text more t replies rest → AnswersAll A moment s text later u same behind → IsOne more later t u replies same rest behind
both_none A moment s t u text replies same rest behind more later none zero a b =
    let x = none_more A moment s t text replies rest more none a in
    let y = none_more A moment s u text same behind later zero b in (none ∙ sym zero, x.0 ∙ sym y.0, x.1 ∙ sym y.1, x.2 ∙ sym y.2)

begins_none : (A : AgreedValues) (moment : ℕ) (s t : State) (text replies rest : List ℕ) (x : RequestAndResponse) (more : List RequestAndResponse)
    → AnswersAll A moment s text (x ∷ more) t replies rest
    → IsOpen text ⊎ ((refused : Refused) × BeginsNoRequest text refused) → ⊥
begins_none A moment s t text replies rest x more a (inl is) = never_opens_requests text x.0 a.2 a.4.begins is
begins_none A moment s t text replies rest x more a (inr (refused, is)) = never_refuses_requests text x.0 a.2 refused a.4.begins is

true_is_not_false : true ≡ false → ⊥
true_is_not_false e = cc

last_once : (r q : Request) → r ≡ q → r.last ≡ true → q.last ≡ false → ⊥
last_once r q same one two = true_is_not_false (sym one ∙ ap (λ (x : Request). x.last) same ∙ two)

-- the first of both are one, and the others begin in one state and one text
record First (A : AgreedValues) (moment : ℕ) (s u : State) (x y : RequestAndResponse) (mid : State) (reply after : List ℕ)
    (later : List RequestAndResponse) (text same behind : List ℕ) : Type 0 where
  pub request : x.0 ≡ y.0
  pub exchange : x ≡ y
  pub rest : List ℕ
  pub replies : same ≡ reply ++ rest
  pub others : AnswersAll A moment mid after later u rest behind

first_one : (A : AgreedValues) (moment : ℕ) (s t u : State) (text replies same rest behind : List ℕ) (x y : RequestAndResponse)
    (more later : List RequestAndResponse)
    → (a : AnswersAll A moment s text (x ∷ more) t replies rest)
    → AnswersAll A moment s text (y ∷ later) u same behind → IsSoundResponse x.1 → IsSoundResponse y.1
    → First A moment s u x y a.0 a.1 a.2 later text same behind
first_one A moment s t u text replies same rest behind x y more later a b sound ok =
    let one = begins_with_one text x.0 y.0 a.2 b.2 a.4.begins b.4.begins in
    let other : Responds A moment s x.0 y.1 Unsaid b.0 = subst (λ (r : Request). Responds A moment s r y.1 Unsaid b.0) (sym one.0) b.4.responds in
    let gets = responds_once A moment s x.0 x.0.method x.0.target x.1 y.1 a.0 b.0 a.4.responds other sound ok in
    let reply : a.1 ≡ b.1 =
    replies_in_one_way moment (form_of x.0) (http_answer x.1) a.1 b.1 a.4.replies
    (subst (λ (r : Request). IsReply moment (form_of r) (http_answer x.1) b.1) (sym one.0)
    (subst (λ (z : Response). IsReply moment (form_of y.0) (http_answer z) b.1) (sym gets.0) b.4.replies)) in
    record {
      request = one.0;
      exchange = ap (λ (r : Request). (r, x.1)) one.0 ∙ ap (λ (z : Response). (y.0, z)) gets.0;
      rest = b.3;
      replies = b.5 ∙ ap (λ (r : List ℕ). r ++ b.3) (sym reply);
      others = subst (λ (mid : State). AnswersAll A moment mid a.2 later u b.3 behind) (sym gets.1)
          (subst (λ (after : List ℕ). AnswersAll A moment b.0 after later u b.3 behind) (sym one.1) b.6);
    }

-- .. and so all
with_first : (x y : RequestAndResponse) (more later : List RequestAndResponse) (t u : State) (reply replies same rest behind left one : List ℕ) → x ≡ y
    → replies ≡ reply ++ left
    → same ≡ reply ++ one → IsOne more later t u left one rest behind
    → IsOne (x ∷ more) (y ∷ later) t u replies same rest behind
with_first x y more later t u reply replies same rest behind left one e a b (d, state, texts, r) =
    (ap (λ (z : RequestAndResponse). z ∷ more) e ∙ ap (λ (l : List RequestAndResponse). y ∷ l) d, state, a ∙ ap (λ (l : List ℕ). reply ++ l) texts ∙ sym b, r)

alike : (A : AgreedValues) (moment : ℕ) (s t u : State) (text replies same rest behind : List ℕ) (done other : List RequestAndResponse)
    → AnswersAll A moment s text done t replies rest → AnswersAll A moment s text other u same behind → Stops done rest → Stops other behind → AreSound done
    → AreSound other
    → IsOne done other t u replies same rest behind
alike A moment s t u text replies same rest behind [] [] a b stops ends sound ok = both_none A moment s t u text replies same rest behind [] [] refl refl a b
alike A moment s t u text replies same rest behind [] (y ∷ later) a b stops ends sound ok =
    absurd (begins_none A moment s u text same behind y later b
    (subst (λ (x : List ℕ). IsOpen x ⊎ ((refused : Refused) × BeginsNoRequest x refused)) a.2 stops))
alike A moment s t u text replies same rest behind (x ∷ more) [] a b stops ends sound ok =
    absurd (begins_none A moment s t text replies rest x more a (subst (λ (z : List ℕ). IsOpen z ⊎ ((refused : Refused) × BeginsNoRequest z refused)) b.2 ends))
alike A moment s t u text replies same rest behind (x ∷ more) (y ∷ later) a b (inl p) (inl q) sound ok =
    let f = first_one A moment s t u text replies same rest behind x y more later a b sound.0 ok.0 in
    with_first x y more later t u a.1 replies same rest behind a.3 f.rest f.exchange a.5 f.replies
    (both_none A moment a.0 t u a.2 a.3 f.rest rest behind more later p.1 q.1 a.6 f.others)
alike A moment s t u text replies same rest behind (x ∷ more) (y ∷ later) a b (inl p) (inr q) sound ok =
    let f = first_one A moment s t u text replies same rest behind x y more later a b sound.0 ok.0 in absurd (last_once x.0 y.0 f.request p.0 q.0)
alike A moment s t u text replies same rest behind (x ∷ more) (y ∷ later) a b (inr p) (inl q) sound ok =
    let f = first_one A moment s t u text replies same rest behind x y more later a b sound.0 ok.0 in absurd (last_once y.0 x.0 (sym f.request) q.0 p.0)
alike A moment s t u text replies same rest behind (x ∷ more) (y ∷ later) a b (inr p) (inr q) sound ok =
    let f = first_one A moment s t u text replies same rest behind x y more later a b sound.0 ok.0 in
    with_first x y more later t u a.1 replies same rest behind a.3 f.rest f.exchange a.5 f.replies
    (alike A moment a.0 t u a.2 a.3 f.rest rest behind more later a.6 f.others p.1 q.1 sound.1 ok.1)

-- ---- the end

-- the end that the input decides
abbrev IsJudged : Served → Type 0
IsJudged Closed = Unit {0}
IsJudged Truncated = Unit {0}
IsJudged BadFraming = Unit {0}
IsJudged ReadFault = ⊥
IsJudged WriteFault = ⊥
IsJudged Memory = ⊥
IsJudged TooLong = ⊥

at_judged : (end : Served) (P : Type 0) → (IsJudged end → P) → AtJudged end P
at_judged Closed P p = p tt
at_judged Truncated P p = p tt
at_judged BadFraming P p = p tt
at_judged ReadFault P p = tt
at_judged WriteFault P p = tt
at_judged Memory P p = tt
at_judged TooLong P p = tt

abbrev EndsSo : List RequestAndResponse → List ℕ → Served → Type 0
EndsSo done rest Closed = EndsLast done ⊎ (StayOpen done × IsOpen rest × (unblank rest ≡ []))
EndsSo done rest Truncated = StayOpen done × IsOpen rest × ¬ (unblank rest ≡ [])
EndsSo done rest BadFraming = StayOpen done × ((refused : Refused) × BeginsNoRequest rest refused)
EndsSo done rest ReadFault = ⊥
EndsSo done rest WriteFault = ⊥
EndsSo done rest Memory = ⊥
EndsSo done rest TooLong = ⊥

ends_so : (A : AgreedValues) (moment : ℕ) (done : List RequestAndResponse) (mid t : State) (replies rest : List ℕ) (unread : Option (List ℕ))
    (before after : SinkAndJournal) (end : Served) → IsJudged end
    → StreamEnds A moment done mid replies rest unread before after t end → (t ≡ mid) × EndsSo done rest end
ends_so A moment done mid t replies rest unread before after Closed is e = (e.0, e.2)
ends_so A moment done mid t replies rest unread before after Truncated is e = (e.0, (e.2, e.3, e.4))
ends_so A moment done mid t replies rest unread before after BadFraming is e = (e.0, (e.1, (e.2.refused, e.2.refuses)))
ends_so A moment done mid t replies rest unread before after ReadFault is e = absurd is
ends_so A moment done mid t replies rest unread before after WriteFault is e = absurd is
ends_so A moment done mid t replies rest unread before after Memory is e = absurd is
ends_so A moment done mid t replies rest unread before after TooLong is e = absurd is

stops_so : (done : List RequestAndResponse) (rest : List ℕ) (end : Served) → EndsSo done rest end → Stops done rest
stops_so done rest Closed (inl (before, x, is, go, last)) = subst (λ (d : List RequestAndResponse). Stops d rest) (sym is) (stops_last before x rest go last)
stops_so done rest Closed (inr (go, is, blank)) = stops_behind done rest go (inl is)
stops_so done rest Truncated (go, is, some) = stops_behind done rest go (inl is)
stops_so done rest BadFraming (go, (refused, is)) = stops_behind done rest go (inr (refused, is))
stops_so done rest ReadFault e = absurd e
stops_so done rest WriteFault e = absurd e
stops_so done rest Memory e = absurd e
stops_so done rest TooLong e = absurd e

goes_not : (before : List RequestAndResponse) (x : RequestAndResponse) → x.0.last ≡ true → StayOpen (before ++ x ∷ []) → ⊥
goes_not [] x last go = true_is_not_false (sym last ∙ go.0)
goes_not (y ∷ before) x last go = goes_not before x last go.1

never_both : (done : List RequestAndResponse) → EndsLast done → StayOpen done → ⊥
never_both done (before, x, is, go, last) all = goes_not before x last (subst StayOpen is all)

one_end : (done : List RequestAndResponse) (rest : List ℕ) (end other : Served) → EndsSo done rest end → EndsSo done rest other → end ≡ other
one_end done rest Closed Closed e f = refl
one_end done rest Closed Truncated (inl e) f = absurd (never_both done e f.0)
one_end done rest Closed Truncated (inr e) f = absurd (f.2 e.2)
one_end done rest Closed BadFraming (inl e) f = absurd (never_both done e f.0)
one_end done rest Closed BadFraming (inr e) f = absurd (never_opens_refused rest f.1.0 f.1.1 e.1)
one_end done rest Truncated Closed e (inl f) = absurd (never_both done f e.0)
one_end done rest Truncated Closed e (inr f) = absurd (e.2 f.2)
one_end done rest Truncated Truncated e f = refl
one_end done rest Truncated BadFraming e f = absurd (never_opens_refused rest f.1.0 f.1.1 e.1)
one_end done rest BadFraming Closed e (inl f) = absurd (never_both done f e.0)
one_end done rest BadFraming Closed e (inr f) = absurd (never_opens_refused rest e.1.0 e.1.1 f.1)
one_end done rest BadFraming Truncated e f = absurd (never_opens_refused rest e.1.0 e.1.1 f.1)
one_end done rest BadFraming BadFraming e f = refl
one_end done rest ReadFault other e f = absurd e
one_end done rest WriteFault other e f = absurd e
one_end done rest Memory other e f = absurd e
one_end done rest TooLong other e f = absurd e
one_end done rest Closed ReadFault e f = absurd f
one_end done rest Closed WriteFault e f = absurd f
one_end done rest Closed Memory e f = absurd f
one_end done rest Closed TooLong e f = absurd f
one_end done rest Truncated ReadFault e f = absurd f
one_end done rest Truncated WriteFault e f = absurd f
one_end done rest Truncated Memory e f = absurd f
one_end done rest Truncated TooLong e f = absurd f
one_end done rest BadFraming ReadFault e f = absurd f
one_end done rest BadFraming WriteFault e f = absurd f
one_end done rest BadFraming Memory e f = absurd f
one_end done rest BadFraming TooLong e f = absurd f

pub serves_in_one_way : ServesInOneWay
serves_in_one_way A moment s input first second sound ok =
    let one = first.serves in
    let two = second.serves in
    at_judged first.end _ (λ is. at_judged second.end _ (λ was.
    let e = ends_so A moment one.done one.mid first.left one.replies one.rest first.unread first.before first.after first.end is one.ends in
    let f = ends_so A moment two.done two.mid second.left two.replies two.rest second.unread second.before second.after second.end was two.ends in
    let same = alike A moment s one.mid two.mid input one.replies two.replies one.rest two.rest one.done two.done one.all two.all
    (stops_so one.done one.rest first.end e.1) (stops_so two.done two.rest second.end f.1) sound ok in
    let there : EndsSo one.done one.rest second.end =
    subst (λ (d : List RequestAndResponse). EndsSo d one.rest second.end) (sym same.0)
    (subst (λ (r : List ℕ). EndsSo two.done r second.end) (sym same.3) f.1) in
    (same.0, same.2, same.3, one_end one.done one.rest first.end second.end e.1 there, e.0 ∙ same.1 ∙ sym f.0)))
