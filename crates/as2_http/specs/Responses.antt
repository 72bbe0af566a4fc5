-- What a request gets in a state of the station, and the state that it leaves, which is Safe where the records were asked.
use Rattle.std.specs.Prelude.{◌≡◌, ℕ, Bool, Some, IsTrue, true, false, ⊤}
use Rattle.as2_records.specs.Standing.{Medium, Standing}
use Rattle.as2_agreement.specs.Agreements.{AgreedValues}
use Rattle.as2_exchange.specs.Lines.{refusal}
use Rattle.as2_exchange.specs.Posts.{Refuses, post_reading}
use Rattle.as2_exchange.specs.Run.{MayFail}
use Rattle.as2_exchange.specs.State.{AllDigests, State}
use Rattle.as2_exchange.specs.Step.{step}
use Rattle.as2_exchange.specs.declared.answer.Line.{Line as TheLine}
use Rattle.as2_station.specs.Heads.{asks_store, is_of_head}
use Rattle.as2_records.specs.Calls.{Lasts}
use Rattle.as2_exchange.specs.declared.event.Event.{Event}
use Rattle.as2_exchange.specs.declared.answer.Answer.TheVariants.{Http}
use Rattle.as2_exchange.specs.declared.answer.HttpAnswer.{HttpAnswer}
use Rattle.as2_exchange.specs.declared.answer.Line.TheVariants as line
use Rattle.as2_exchange.specs.declared.event.Event.TheVariants as event
use Rattle.as2_exchange.specs.declared.fault.StoreFault.{StoreFault}
use Rattle.as2_exchange.specs.declared.fault.StoreFault.TheVariants.{Full}
use Rattle.as2_messages.specs.declared.request.Request.{Request}
use Rattle.as2_messages.specs.declared.framing.Method.{Method}
use Rattle.as2_messages.specs.declared.framing.Method.TheVariants.{Post, Head, Other as OtherMethod}
use Rattle.as2_messages.specs.declared.framing.Target.{Target}
use Rattle.as2_messages.specs.declared.framing.Target.TheVariants.{Station, Other as OtherTarget}
use Rattle.as2_http.specs.declared.response.Response.{Response}
use Rattle.as2_http.specs.declared.response.Response.TheVariants.{Answered, Failed, OnlyPost, NoPath}

-- ---- the answer that a response is

-- the line that tells a fault of the store
abbrev pub store_fault_line : StoreFault → TheLine
store_fault_line Full = line.StoreFull
store_fault_line other = line.StoreFailed

abbrev pub http_answer : Response → HttpAnswer
http_answer (Answered answer) = answer
http_answer (Failed fault) = refusal (store_fault_line fault)
http_answer OnlyPost = refusal line.OnlyPost
http_answer NoPath = refusal line.NoSuchPath

-- ---- what a request gets

-- the head of a post doesn't decide its answer
abbrev pub IsPastHead : AgreedValues → Request → Type 0
IsPastHead A r = (line : TheLine) → post_reading A AllDigests r.fields r.body ≡ Refuses line → ¬ (is_of_head line ≡ true)

-- a post at this moment, as an event
abbrev pub post_event : Request → ℕ → Event
post_event r moment = event.Post r.fields r.body moment

-- the records are open, and whatever stops the computer now, what an open finds stands for this state
pub record IsSafe {M : Medium} (c : Standing M) (t : State) : Type 0 where
  pub is_open : IsTrue c.is_open
  pub lasts : Lasts c t

-- nothing is said of what a crash leaves
abbrev pub Unsaid : State → Type 0
Unsaid t = ⊤

-- a request is a post to the station's path
abbrev pub is_for_station : Method → Target → Bool
is_for_station Post Station = true
is_for_station Post OtherTarget = false
is_for_station Head target = false
is_for_station OtherMethod target = false

module _ (A : AgreedValues) (moment : ℕ) where
  -- The post is a step of the machine, or there is a fault. Where the step asks the records, the state that it leaves is safe. A
  -- fault changes nothing, and never stands in place of what the head decides.
  abbrev pub RespondsToPost : State → Request → Response → (State → Type 0) → State → Type 0
  RespondsToPost s r (Answered answer) Safe t =
      (step A s (post_event r moment) ≡ Some (Http answer, t)) × (asks_store A (post_event r moment) ≡ true → Safe t)
  RespondsToPost s r (Failed fault) Safe t = MayFail A s (post_event r moment) fault × (t ≡ s) × IsPastHead A r
  RespondsToPost s r OnlyPost Safe t = ⊥
  RespondsToPost s r NoPath Safe t = ⊥

  -- a post to the station's path is an event; any other request changes nothing
  abbrev pub RespondsTo : Method → Target → State → Request → Response → (State → Type 0) → State → Type 0
  RespondsTo Post Station s r response Safe t = RespondsToPost s r response Safe t
  RespondsTo Post OtherTarget s r response Safe t = (response ≡ NoPath) × (t ≡ s)
  RespondsTo Head target s r response Safe t = (response ≡ OnlyPost) × (t ≡ s)
  RespondsTo OtherMethod target s r response Safe t = (response ≡ OnlyPost) × (t ≡ s)

  -- at this moment and in the state s the request gets this response, and leaves t
  abbrev pub Responds : State → Request → Response → (State → Type 0) → State → Type 0
  Responds s r response Safe t = RespondsTo r.method r.target s r response Safe t
