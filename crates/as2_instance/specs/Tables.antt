-- What the tables of a connection stand for, once an event was taken over them.
use Rattle.std.specs.Prelude.{[], ◌∷◌, Result, IsTrue}
use Rattle.sqlite.specs.State.{State as Connected, HasCleanDisk}
use Rattle.as2_exchange.specs.Agreement.{Agreements}
use Rattle.as2_exchange.specs.Run.{AnEvent}
use Rattle.as2_exchange.specs.State.{State}
use Rattle.as2_exchange.specs.declared.answer.Answer.{Answer}
use Rattle.as2_exchange.specs.declared.event.Event.{Event}
use Rattle.as2_exchange.specs.declared.fault.StoreFault.{StoreFault}
use Rattle.as2_store.specs.Stands.{Rests}
use Rattle.as2_store.specs.Calls.{TablesLast}
use Rattle.as2_station.specs.Theorem.{EndsByHistory, said_as}

-- what the tables stand for then is by this event, behind what led to the state that they stood for
abbrev pub TakesOver : Agreements → Event → Connected → Connected → Result Answer StoreFault → Type 0
TakesOver A event old new r = HasCleanDisk new → (s : State) → Rests old s → (t : State) × Rests new t × EndsByHistory A s (AnEvent event (said_as (λ (a : Answer). a) r) ∷ []) t

-- and lasts, whatever stops the computer
abbrev pub LastsOver : Connected → Type 0
LastsOver c = IsTrue c.is_open → (s : State) → Rests c s → TablesLast c s
