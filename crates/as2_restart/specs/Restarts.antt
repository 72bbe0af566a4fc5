-- What stands once the files of a store are opened again, after a close or a crash.
use Rattle.std.specs.Prelude.{◌≡◌, ◌⊎◌, ℕ, false, List, [], ◌∷◌, ◌++◌, Result, ⊤}
use Rattle.sqlite_disk.specs.declared.Disk as disk
use Rattle.sqlite_store.specs.declared.store.FileStore.{FileStore}
use Rattle.sqlite_trees.specs.Tree.{Trees}
use Rattle.sqlite.specs.Files.{over_files}
use Rattle.sqlite.specs.Held.{Held, state}
use Rattle.sqlite.specs.State.{State as Connected}
use Rattle.as2_exchange.specs.Agreement.{Agreements}
use Rattle.as2_exchange.specs.Run.{Answered, Failed, TraceEntry, AnEvent, AMigration, Trace, Run}
use Rattle.as2_exchange.specs.State.{State}
use Rattle.as2_exchange.specs.declared.answer.Answer.{Answer}
use Rattle.as2_exchange.specs.declared.event.Event.{Event}
use Rattle.as2_exchange.specs.declared.fault.StoreFault.{StoreFault}
use Rattle.as2_store.specs.Calls.{Keeps, TablesLast}
use Rattle.as2_store.specs.Stands.{Rests}
use Rattle.as2_kept.specs.Instance.{tables_standing}
use Rattle.as2_station.specs.Heads.{asks_store}
use Rattle.as2_station.specs.Theorem.{EndsByHistory}
use Rattle.as2_station.specs.Traces.{TakesEvents}

-- the tables stand for this state, and so they do for whoever opens the files next, whatever stops the computer
pub record IsHeld (c : Connected) (s : State) : Type 0 where
  pub rests : Rests c s
  pub lasts : TablesLast c s

-- nothing that asks the store was answered, a migration neither
abbrev pub IsUnanswered : Agreements → Trace → Type 0
IsUnanswered A [] = ⊤
IsUnanswered A (AnEvent event (Answered answer) ∷ rest) = (asks_store A event ≡ false) × IsUnanswered A rest
IsUnanswered A (AnEvent event (Failed fault) ∷ rest) = IsUnanswered A rest
IsUnanswered A (AMigration number ∷ rest) = ⊥

-- The same events, but one to which no answer came has one here. Behind that one nothing that asks the store was answered. Or behind
-- all of them the store was migrated, to which no answer came.
pub data HasOneDone (A : Agreements) : Trace → Trace → Type 0 where
  this_one : (event : Event) (fault : StoreFault) (answer : Answer) (rest : Trace) → IsUnanswered A rest → HasOneDone A (AnEvent event (Failed fault) ∷ rest) (AnEvent event (Answered answer) ∷ rest)
  a_migration : (number : ℕ) → HasOneDone A [] (AMigration number ∷ [])
  later_one : (first : TraceEntry) (rest events : Trace) → HasOneDone A rest events → HasOneDone A (first ∷ rest) (first ∷ events)

-- the events count as they were answered, but for one such at most, which may count as done
abbrev pub Counts : Agreements → Trace → Trace → Type 0
Counts A told events = (events ≡ told) ⊎ HasOneDone A told events

-- what was told leads from s to t, perhaps with one such event done: a run of the machine, in which what stands of each document is
-- its history
pub record ComesTo (A : Agreements) (told : Trace) (s t : State) : Type 0 where
  pub events : Trace
  pub counts : Counts A told events
  pub run : Run A s events t
  pub by_history : EndsByHistory A s events t

-- whatever stops the computer now, what was told leads to what the tables stand for that are found
abbrev pub LeadsToFound : Agreements → Trace → State → Connected → Type 0
LeadsToFound A told s c = (db : Trees) → c.may_leave db → (t : State) × ComesTo A told s t × Keeps db t

-- what was told leads to the state that is held
abbrev pub LeadsToHeld : Agreements → Trace → State → Connected → Type 0
LeadsToHeld A told s c = (t : State) × ComesTo A told s t × IsHeld c t

-- one list after the other, each from the state that the one before it came to: what was told of each, and the events that count
abbrev pub ComesInTurn : Agreements → List Trace → Trace → State → State → Type 0
ComesInTurn A [] events s t = (events ≡ []) × (t ≡ s)
ComesInTurn A (told ∷ rest) events s u = (t : State) × (it : ComesTo A told s t) × (later : Trace) × (events ≡ it.events ++ later) × ComesInTurn A rest later t u

-- each event was taken in turn by the station, and nothing was done between
abbrev pub WasPlayed : {D : Type 0} {g : disk.Ghosts D} → Agreements → List Event → List (Result Answer StoreFault) → Held (FileStore D g) → Type 0
WasPlayed {D} {g} A events answers station = (left : Held (FileStore D g)) × TakesEvents (λ (h : Held (FileStore D g)). tables_standing (state over_files h)) A events answers station left
