-- What a post gets, from what the station says of it.
use Rattle.std.proofs.Common.{◌≡◌, ℕ, Ok, Err, refl, subst, sym}
use Rattle.as2_records.specs.Standing.{Medium, Standing}
use Rattle.as2_agreement.specs.Agreements.{AgreedValues}
use Rattle.as2_exchange.specs.State.{State}
use Rattle.as2_exchange.specs.declared.answer.Answer.TheVariants.{Http}
use Rattle.as2_exchange.specs.declared.answer.HttpAnswer.{HttpAnswer}
use Rattle.as2_exchange.specs.declared.fault.StoreFault.{StoreFault}
use Rattle.as2_messages.specs.declared.request.Request.{Request}
use Rattle.as2_messages.specs.declared.framing.Method.{Method}
use Rattle.as2_messages.specs.declared.framing.Method.TheVariants.{Post}
use Rattle.as2_messages.specs.declared.framing.Target.{Target}
use Rattle.as2_messages.specs.declared.framing.Target.TheVariants.{Station}
use Rattle.as2_http.specs.declared.response.Response.{Response}
use Rattle.as2_station.specs.Steps.{TakesEvent, TakesHead}
use Rattle.as2_http.specs.Responses.{IsSafe, Responds, RespondsTo, RespondsToPost, post_event}
use Rattle.as2_http.specs.declared.response.Response.TheVariants.{Answered, Failed}

-- it is answered, and what is left is safe where the store was asked
pub answered : {M : Medium} (A : AgreedValues) (moment : ℕ) (r : Request) (old new : Standing M) (a : HttpAnswer)
    → TakesEvent A (post_event r moment) Http old new (Ok a)
    → new.IsClean → (s : State) → old.Rests s → (t : State) × new.Rests t × RespondsToPost A moment s r (Answered a) (IsSafe new) t
answered A moment r old new a taken clean s rests =
    let left = taken.does.answered clean s rests tt in (
      left.next,
      left.rests,
      (left.step, λ asks. let opened = taken.does.is_open clean asks in record { is_open = opened; lasts = taken.lasts opened left.next left.rests }),
    )

-- the store failed, and its head didn't decide
pub store_failed : {M : Medium} {H : Type 0} (A : AgreedValues) (moment : ℕ) (r : Request) (old new : Standing M) (before after : H) (f : StoreFault)
    → TakesEvent A (post_event r moment) Http old new (Err f) → TakesHead A (post_event r moment) (λ (a : HttpAnswer). a) before after (Err f)
    → new.IsClean → (s : State) → old.Rests s → (t : State) × new.Rests t × RespondsToPost A moment s r (Failed f) (IsSafe new) t
store_failed A moment r old new before after f taken head clean s rests =
    let fault = taken.does.failed clean s rests tt in (
      s,
      fault.0,
      (fault.1, refl, λ line reads by_head. let told = head.answer r.fields r.body moment line refl reads by_head in absurd cc),
    )

-- a post to the station's path gets what the post takes
pub posts : (A : AgreedValues) (moment : ℕ) (s : State) (r : Request) (x : Response) (Safe : State → Type 0) (t : State) → r.method ≡ Post → r.target ≡ Station
    → RespondsToPost A moment s r x Safe t → Responds A moment s r x Safe t
posts A moment s r x Safe t is_post is_station takes =
    subst (λ (m : Method). RespondsTo A moment m r.target s r x Safe t) (sym is_post)
    (subst (λ (at : Target). RespondsTo A moment Post at s r x Safe t) (sym is_station) takes)
