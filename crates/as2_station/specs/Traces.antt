-- Events with what was said to each.
use Rattle.std.specs.Prelude.{◌≡◌, List, [], ◌∷◌, map, zip, Result, Ok, Err}
use Rattle.as2_records.specs.Standing.{Medium, Standing}
use Rattle.as2_exchange.specs.Agreement.{Agreements}
use Rattle.as2_exchange.specs.Run.{EventResult, Answered, Failed, AnEvent, Trace, Run}
use Rattle.as2_exchange.specs.State.{State}
use Rattle.as2_exchange.specs.declared.event.Event.{Event}
use Rattle.as2_exchange.specs.declared.answer.Answer.{Answer}
use Rattle.as2_exchange.specs.declared.answer.Answer.TheVariants.{Http, Refused}
use Rattle.as2_exchange.specs.declared.fault.StoreFault.{StoreFault}
use Rattle.as2_station.specs.Steps.{RefusesSubmit, TakesEvent, TakesHead}
use Rattle.as2_station.specs.Theorem.{EndsByHistory}

-- an answer, or the fault that stands in its place
abbrev pub event_result : Result Answer StoreFault → EventResult
event_result (Ok answer) = Answered answer
event_result (Err fault) = Failed fault

-- each event with what was said to it
abbrev pub trace : List Event → List (Result Answer StoreFault) → Trace
trace events answers = map (λ (e : Event × EventResult). AnEvent e.0 e.1) (zip events (map event_result answers))

-- the trace is a run of the machine, from the state that the records rested on to the one that they rest on, in which what stands of
-- each document is its history
pub record PlaysTrace {M : Medium} (A : Agreements) (told : Trace) (s : State) (c : Standing M) : Type 0 where
  pub end : State
  pub run : Run A s told end
  pub by_history : EndsByHistory A s told end
  pub rests : c.Rests end

-- what was said is a run of the machine, from each state that the records rested on
abbrev pub Plays : {H : Type 0} {M : Medium} → (H → Standing M) → Agreements → List Event → List (Result Answer StoreFault) → H → H → Type 0
Plays shows A events answers old new = (shows new).IsClean → (s : State) → (shows old).Rests s → PlaysTrace A (trace events answers) s (shows new)

-- each event was taken in turn, from one standing of the records to the next, and nothing was done between
abbrev pub TakesEvents : {H : Type 0} {M : Medium} → (H → Standing M) → Agreements → List Event → List (Result Answer StoreFault) → H → H → Type 0
TakesEvents shows A [] [] old new = new ≡ old
TakesEvents shows A [] (r ∷ rs) old new = ⊥
TakesEvents shows A (e ∷ es) [] old new = ⊥
TakesEvents {H} {M} shows A (e ∷ es) (r ∷ rs) old new = (mid : H) × TakesEvent A e (λ a. a) (shows old) (shows mid) r × TakesHead A e Http old mid r × RefusesSubmit A e Refused old mid r × TakesEvents shows A es rs mid new
