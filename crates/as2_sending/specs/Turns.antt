-- What is due is sent, turn by turn, and how that ends.
use Rattle.std.specs.Prelude.{◌≡◌, ℕ, true, List, [], ◌∷◌, ◌++◌, Option, Some, None, Result, Ok, Err}
use Rattle.std.specs.Io.KnownBytes.{Appends}
use Rattle.std.specs.List.{flat_map}
use Rattle.as2_records.specs.Standing.{Medium, Standing}
use Rattle.as2_exchange.specs.Agreement.{Agreements, Text}
use Rattle.as2_exchange.specs.Run.{Trace, AnEvent, Answered, Failed, Run}
use Rattle.as2_exchange.specs.State.{State}
use Rattle.as2_exchange.specs.Step.{step}
use Rattle.as2_exchange.specs.Due.{next}
use Rattle.as2_exchange.specs.declared.answer.Answer.TheVariants.{Job as Handed, Refused}
use Rattle.as2_exchange.specs.declared.answer.Job.{Job}
use Rattle.as2_exchange.specs.declared.answer.Refusal.{Refusal}
use Rattle.as2_exchange.specs.declared.event.TryAnswer.{TryAnswer}
use Rattle.as2_exchange.specs.declared.fault.StoreFault.{StoreFault}
use Rattle.as2_exchange.specs.declared.next.Next.{Next}
use Rattle.as2_records.specs.Standing.{may_come}
use Rattle.as2_station.specs.Said.{answer_of, begin_event, outcome_event}
use Rattle.as2_station.specs.Theorem.{EndsByHistory}
use Rattle.as2_http.specs.Responses.{IsSafe}
use Rattle.as2_sending.specs.Exchanges.{Exchange, exchanges}
use Rattle.as2_sending.specs.Hints.{hint_if, why_of}
use Rattle.as2_sending.specs.Lines.{turn_line, trace_lines}
use Rattle.as2_sending.specs.declared.links.LinkFault.{LinkFault}
use Rattle.as2_sending.specs.declared.sent.Sent.{Sent}
use Rattle.as2_sending.specs.declared.sent.Sent.TheVariants as sent
use Rattle.as2_station.specs.declared.said.Became.{Became}

-- ---- a turn

-- what is tried, the request that is handed to the link, what the link answers, and why it brings no answer, where it brings none;
-- and what becomes of the try
pub record Turn : Type 0 where
  pub what : Next
  pub job : Job
  pub got : TryAnswer
  pub fault : LinkFault
  pub became : Became

-- what went over the link
abbrev pub exchanged_by : Turn → Exchange
exchanged_by x = record { job = x.job; got = x.got }

-- why it failed, where it did
abbrev pub hint_of : Turn → Text
hint_of x = hint_if x.what x.became (why_of x.got x.fault)

abbrev pub hints : List Turn → Text
hints turns = flat_map hint_of turns

-- what is next in the state s begins at this moment, and this request is to be sent; mid is left
pub record BeginsTry (A : Agreements) (m : ℕ) (s : State) (what : Next) (job : Job) (mid : State) : Type 0 where
  pub is_next : next s m ≡ Some what
  pub begun : step A s (begin_event what m) ≡ Some (Handed job, mid)

-- what is next begins, and the outcome of that same try, which is what the link answered, is taken; t is left
pub record TakesTurn (A : Agreements) (m : ℕ) (s : State) (x : Turn) (t : State) : Type 0 where
  pub mid : State
  pub begins : BeginsTry A m s x.what x.job mid
  pub closes : step A mid (outcome_event x.what x.got m) ≡ Some (answer_of x.became, t)

-- these turns, one after the other
abbrev pub TakesTurns : Agreements → ℕ → State → List Turn → State → Type 0
TakesTurns A m s [] t = t ≡ s
TakesTurns A m s (x ∷ more) t = (mid : State) × TakesTurn A m s x mid × TakesTurns A m mid more t

-- the events of turns, with their answers
abbrev pub turn_events : ℕ → List Turn → Trace
turn_events m [] = []
turn_events m (x ∷ more) = AnEvent (begin_event x.what m) (Answered (Handed x.job)) ∷ AnEvent (outcome_event x.what x.got m) (Answered (answer_of x.became)) ∷ turn_events m more

-- ---- the end

-- in the state s these last events came, of which the last one was refused for this reason; t is left
pub data SendingIsRefused (A : Agreements) (m : ℕ) (s : State) (last : Trace) (t : State) (reason : Refusal) : Type 0 where
  at_begin_refused : (what : Next) (is_next : next s m ≡ Some what) (refused : step A s (begin_event what m) ≡ Some (Refused reason, t))
      (are : last ≡ AnEvent (begin_event what m) (Answered (Refused reason)) ∷ []) → SendingIsRefused A m s last t reason
  at_outcome_refused : (what : Next) (job : Job) (got : TryAnswer) (mid : State) (begins : BeginsTry A m s what job mid) (refused : step A mid (outcome_event what got m) ≡ Some (Refused reason, t))
      (are : last ≡ AnEvent (begin_event what m) (Answered (Handed job)) ∷ AnEvent (outcome_event what got m) (Answered (Refused reason)) ∷ []) → SendingIsRefused A m s last t reason

-- .. of which the last one got this fault of the store; or what is next couldn't be told, and no more events came
pub data SendingFails (A : Agreements) (m : ℕ) (s : State) (last : Trace) (t : State) (why : StoreFault) : Type 0 where
  at_next_failed : (same : t ≡ s) (none : last ≡ []) → SendingFails A m s last t why
  at_begin_failed : (what : Next) (is_next : next s m ≡ Some what) (same : t ≡ s) (are : last ≡ AnEvent (begin_event what m) (Failed why) ∷ []) → SendingFails A m s last t why
  at_outcome_failed : (what : Next) (job : Job) (got : TryAnswer) (begins : BeginsTry A m s what job t)
      (are : last ≡ AnEvent (begin_event what m) (Answered (Handed job)) ∷ AnEvent (outcome_event what got m) (Failed why) ∷ []) → SendingFails A m s last t why

-- a whole turn, of whose line a part may be missing
pub record IsUntold (A : Agreements) (m : ℕ) (s : State) (last : Trace) (t : State) (text : Text) : Type 0 where
  pub turn : Turn
  pub takes : TakesTurn A m s turn t
  pub are : last ≡ turn_events m (turn ∷ [])
  pub missing : Text
  pub cut : turn_line turn.what turn.became ≡ text ++ missing

module _ (A : Agreements) (m : ℕ) where
  -- how sending ends in the state s: with which last events, which state is left, and what is still written
  abbrev pub SendingEnds : State → Trace → State → Text → Sent → Type 0
  SendingEnds s last t text sent.Done = (next s m ≡ None) × (t ≡ s) × (last ≡ []) × (text ≡ [])
  SendingEnds s last t text (sent.Refused reason) = SendingIsRefused A m s last t reason × (text ≡ [])
  SendingEnds s last t text (sent.Failed why) = SendingFails A m s last t why × (may_come why ≡ true) × (text ≡ [])
  SendingEnds s last t text sent.Unwritten = IsUntold A m s last t text

-- ---- all of it

-- Turns were taken one after the other, and then sending ended so. The events are a run of the machine, what stands of each document
-- then is its history, and what was written is the lines of the turns. What was hinted, and what went over the links, is Seen: why
-- each turn failed that did, and the jobs that were handed out, each with the outcome that was taken. Those of the last events are
-- seen too.
pub record Sends (A : Agreements) (m : ℕ) (s t : State) (before after : Option (List ℕ))
    (Seen : Text → List Exchange → Type 0) (end : Sent) : Type 0 where
  pub done : List Turn
  pub mid : State
  pub all : TakesTurns A m s done mid
  pub last : Trace
  pub rest : Text
  pub ends : SendingEnds A m mid last t rest end
  pub run : Run A s (turn_events m done ++ last) t
  pub by_history : EndsByHistory A s (turn_events m done ++ last) t
  pub written : Appends before after (trace_lines (turn_events m done) ++ rest)
  pub seen : Seen (hints done) (exchanges (turn_events m done ++ last))

-- ---- one turn

module _ (A : Agreements) (m : ℕ) where
  -- What is next begins, and the records rest on the state that it leaves. That state lasts before its request goes over a link. Or
  -- sending ends with it, and nothing goes over a link.
  abbrev pub BeginsTo : {M : Medium} → State → Next → Standing M → Result Job Sent → Type 0
  BeginsTo s what c (Ok job) = (mid : State) × BeginsTry A m s what job mid × c.Rests mid × IsSafe c mid
  BeginsTo s what c (Err end) = (last : Trace) × (t : State) × SendingEnds A m s last t [] end × c.Rests t × (exchanges last ≡ [])

  -- What has begun left mid. Its outcome is taken, and the state that this leaves lasts before its line is written. Or sending
  -- ends with it.
  abbrev pub ClosesTo : {M : Medium} → State → Next → Exchange → State → Standing M → Result Became Sent → Type 0
  ClosesTo s what x mid c (Ok became) =
      (t : State) × (step A mid (outcome_event what x.got m) ≡ Some (answer_of became, t)) × c.Rests t × IsSafe c t
  ClosesTo s what x mid c (Err end) =
      (last : Trace) × (t : State) × SendingEnds A m s last t [] end × c.Rests t × (exchanges last ≡ x ∷ [])

-- a turn is taken whole, with its line, its hint and its exchange; or sending ends with it, and nothing is hinted
abbrev pub TurnsTo : {M : Medium} {U : Type 0} → Agreements → ℕ → State → Standing M → Option (List ℕ) → Option (List ℕ)
    → (Text → List Exchange → Type 0) → Result U Sent → Type 0
TurnsTo A m s c before after Seen (Ok done) =
    (x : Turn) × (t : State) × TakesTurn A m s x t × c.Rests t × Appends before after (turn_line x.what x.became) × Seen (hint_of x) (exchanged_by x ∷ [])
TurnsTo A m s c before after Seen (Err end) =
    (last : Trace) × (t : State) × (text : Text) × SendingEnds A m s last t text end × c.Rests t × Appends before after text × Seen [] (exchanges last)
