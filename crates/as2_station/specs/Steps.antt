-- A step of the machine, as the records show it.
use Rattle.std.specs.Prelude.{◌≡◌, ◌⊎◌, ℕ, List, Option, Some, None, true, Result, Ok, IfOk, IfErr, OnOk, IsTrue, option_map, ⊤}
use Rattle.as2_records.specs.Standing.{Medium, Standing}
use Rattle.as2_records.specs.Calls.{Survives}
use Rattle.as2_exchange.specs.Agreement.{Agreements, Text}
use Rattle.as2_exchange.specs.Readings.{Head}
use Rattle.as2_exchange.specs.Posts.{PostReading, Refuses, IsDocument, post_reading}
use Rattle.as2_exchange.specs.Step.{post, step}
use Rattle.as2_exchange.specs.declared.event.Event.{Event}
use Rattle.as2_exchange.specs.declared.event.Event.TheVariants.{Post, Submit}
use Rattle.as2_exchange.specs.declared.answer.HttpAnswer.{HttpAnswer}
use Rattle.as2_exchange.specs.declared.answer.Line.{Line}
use Rattle.as2_exchange.specs.declared.answer.Line.TheVariants.{IdUsedBefore}
use Rattle.as2_exchange.specs.declared.inbox.InEntry.{InEntry}
use Rattle.as2_exchange.specs.declared.inbox.Posted.{Posted}
use Rattle.as2_exchange.specs.Lines.{refusal}
use Rattle.as2_exchange.specs.State.{AllDigests, State, received_as}
use Rattle.as2_posts.specs.Answers.{has_kept_mic}
use Rattle.as2_exchange.specs.declared.answer.Answer.{Answer}
use Rattle.as2_exchange.specs.declared.answer.Answer.TheVariants.{Http}
use Rattle.as2_exchange.specs.declared.answer.Refusal.{Refusal}
use Rattle.as2_exchange.specs.declared.fault.StoreFault.{StoreFault}
use Rattle.as2_exchange.specs.declared.fault.StoreFault.TheVariants.{Full}
use Rattle.as2_records.specs.Standing.{may_come}
use Rattle.as2_records.specs.Calls.{KeepsNext, Lasts}
use Rattle.as2_station.specs.Theorem.{TakesByHistory}
use Rattle.as2_station.specs.Heads.{is_of_head, asks_store, submit_refusal, takes_store}

-- what the machine answers in a state, and the state that it leaves; nothing where the number that it needs is used up
abbrev pub Machine : Type 0
Machine = State → Option (Answer × State)

-- the state that the machine leaves with this answer, which the records rest on
pub record LeavesAnswered {M : Medium} (c : Standing M) (came : Option (Answer × State)) (a : Answer) : Type 0 where
  pub next : State
  pub step : came ≡ Some (a, next)
  pub rests : c.Rests next

-- the state that the machine leaves
abbrev pub left_by : Machine → State → Option State
left_by machine s = option_map (λ (came : Answer × State). came.1) (machine s)

-- What a call may leave to a crash beside what was left before. Over open records it is the state that they rested on,
-- or the one that the machine leaves.
pub record MayLeave {M : Medium} (machine : Machine) (given : State → Type 0) (old : Standing M) (left : M.Remains) : Type 0 where
  pub was_open : IsTrue old.is_open
  pub stands : (s : State) → old.Rests s → given s → M.keeps left s ⊎ KeepsNext M left (left_by machine s)

-- A call does what the machine does, in each state of which this is given. It answers what the machine answers, and where it
-- asks the records, these are open. Or it fails, and then nothing is changed. It is Full only where no number is left.
pub record Does {M : Medium} {A : Type 0} (machine : Machine) (given : State → Type 0) (asks : Type 0) (told : A → Answer) (old new : Standing M) (r : Result A StoreFault) : Type 0 where
  pub clean : new.IsClean → old.IsClean
  pub is_open : new.IsClean → OnOk r (asks → IsTrue new.is_open)
  pub answered : new.IsClean → IfOk r (λ a. (s : State) → old.Rests s → given s → LeavesAnswered new (machine s) (told a))
  pub failed : new.IsClean → IfErr r (λ f. (s : State) → old.Rests s → given s → new.Rests s × (f ≡ Full → machine s ≡ None))
  pub fault : IfErr r (λ f. (f ≡ Full) ⊎ (may_come f ≡ true))
  pub crash : Survives old new (MayLeave machine given old)

-- of every state
abbrev pub always : State → Type 0
always s = ⊤

-- the document that is kept under this one's key, if there is one, has its kept MIC
abbrev pub IsKeptWhole : Posted → State → Type 0
IsKeptWhole p s = (e : InEntry) → received_as s p ≡ Some e → has_kept_mic e.posted ≡ true

-- an identifier is told to be another document's only where that one is kept whole
abbrev pub ClashesWhole : {M : Medium} {A : Type 0} → (A → Answer) → PostReading → Standing M → Standing M → Result A StoreFault → Type 0
ClashesWhole told reads old new r = new.IsClean
    → IfOk r (λ a. told a ≡ Http (refusal IdUsedBefore) → (p : Posted) → reads ≡ IsDocument p → (s : State) → old.Rests s → IsKeptWhole p s)

-- A call that takes an event. What stands then of each document is its history. What the records rest on lasts, whatever stops
-- the machine. What is damaged is not taken for another document.
pub record TakesEvent {M : Medium} {A : Type 0} (agreed : Agreements) (event : Event) (told : A → Answer) (old new : Standing M) (r : Result A StoreFault) : Type 0 where
  pub does : Does (λ s. step agreed s event) always (asks_store agreed event ≡ true) told old new r
  pub by_history : TakesByHistory agreed event told old new r
  pub lasts : IsTrue new.is_open → (s : State) → new.Rests s → Lasts new s
  pub whole : (head : Head) (body : List ℕ) (moment : ℕ) → event ≡ Post head body moment → ClashesWhole told (post_reading agreed AllDigests head body) old new r

-- a call that takes a post that is read so, in each state of which this is given
abbrev pub TakesPost : {H : Type 0} {M : Medium} → (H → Standing M) → Agreements → ℕ → PostReading → (State → Type 0) → H → H → Result HttpAnswer StoreFault → Type 0
TakesPost shows agreed moment reads given old new r = Does (λ s. post agreed s moment reads) given (takes_store reads ≡ true) Http (shows old) (shows new) r

-- a post that its head alone refuses is answered by that line, and nothing else happens
pub record TakesHead {A H : Type 0} (agreed : Agreements) (event : Event) (told : HttpAnswer → A) (old new : H) (r : Result A StoreFault) : Type 0 where
  pub answer : (head : Head) (body : List ℕ) (moment : ℕ) (line : Line) → event ≡ Post head body moment → post_reading agreed AllDigests head body ≡ Refuses line → is_of_head line ≡ true → r ≡ Ok (told (refusal line))
  pub same : (head : Head) (body : List ℕ) (moment : ℕ) (line : Line) → event ≡ Post head body moment → post_reading agreed AllDigests head body ≡ Refuses line → is_of_head line ≡ true → new ≡ old

-- a document that is refused gets its refusal, whatever memory and the records do, and nothing else happens
pub record RefusesSubmit {A H : Type 0} (agreed : Agreements) (event : Event) (told : Refusal → A) (old new : H) (r : Result A StoreFault) : Type 0 where
  pub answer : (organization partner content : Text) (moment : ℕ) (reason : Refusal) → event ≡ Submit organization partner content moment → submit_refusal agreed organization partner content ≡ Some reason → r ≡ Ok (told reason)
  pub same : (organization partner content : Text) (moment : ℕ) (reason : Refusal) → event ≡ Submit organization partner content moment → submit_refusal agreed organization partner content ≡ Some reason → new ≡ old
