-- What a run observes of what it is given.
use Rattle.std.specs.Prelude.{◌≡◌, ◌<◌, ◌+◌, ℕ, List, Option}
use Rattle.as2_agreement.specs.Agreements.{AgreedValues}
use Rattle.as2_commands.specs.Requests.{GivenServing}
use Rattle.as2_commands.specs.declared.tasks.Waits.{Waits}
use Rattle.as2_exchange.specs.State.{State}
use Rattle.as2_evidence.specs.Files.{File}
use Rattle.as2_host.specs.Migrating.{migrated_if_first}
use Rattle.as2_host.specs.Networks.{ListenerSeen}
use Rattle.as2_host.specs.declared.files.MakeFiles.{Ghosts as Files}
use Rattle.as2_host.specs.declared.files.MakingFault.{MakingFault}
use Rattle.as2_host.specs.declared.stores.OpenFault.{OpenFault}
use Rattle.as2_host.specs.declared.stores.OpenStores.{Ghosts as Stores}
use Rattle.as2_http.specs.declared.device.Sink.{Ghosts as Sinks}
use Rattle.as2_http.specs.declared.device.Source.{Ghosts as Sources}
use Rattle.as2_sending.specs.Exchanges.{Exchange}
use Rattle.as2_desk.specs.Stores.{StoreBegins, IsFaultAt, IsStayAt, is_in_memory, opens_at}
use Rattle.as2_desk.specs.Written.{WriterSeen, written_of}
use Rattle.as2_desk.specs.declared.console.Console.{Console}

-- a reader, before and behind
pub record Input : Type 1 where
  -- the bytes that it had left and has left, where it tells them
  pub before : Option (List ℕ)
  pub after : Option (List ℕ)
  -- how many calls had been and have been made of it
  pub calls : ℕ
  pub later : ℕ
  -- nothing was done to it
  pub Untouched : Type 0
  -- a read of it failed
  pub HasFailed : Type 0
  -- none did
  pub IsSound : Type 0

-- what is written and left
pub record Outcome : Type 1 where
  pub output : WriterSeen
  pub errors : WriterSeen
  -- the records stand for that state then
  pub Left : State → Type 0

-- the files, before and behind
pub record FilesSeen : Type 1 where
  -- none was made
  pub Untouched : Type 0
  -- these were made in that folder
  pub Makes : List ℕ → List File → Type 0
  -- none of these was, for that fault
  pub MakesNone : List ℕ → List File → MakingFault → Type 0

-- the streams, the files, the network, and the state that is left
pub record Observation : Type 1 where
  pub input : Input
  pub outcome : Outcome
  pub filing : FilesSeen
  -- the network wasn't asked for anything
  pub Unasked : Type 0
  -- it was asked once, for links with these waits, and these exchanges went over them
  pub Exchanged : Waits → List Exchange → Type 0
  -- it was asked once, for a listener as the words say: what came of it, over these agreements
  pub listening : AgreedValues → GivenServing → ListenerSeen

-- the stores
pub record StoresSeen : Type 1 where
  -- nothing was done to them
  pub Untouched : Type 0
  -- none was opened
  pub Unopened : Type 0
  -- what was kept under the path of the command's store is kept
  pub Kept : Type 0
  -- its store can't be opened, for that fault
  pub Fails : OpenFault → Type 0
  -- what was kept under the path, of an earlier version, is kept once it is migrated
  pub Moved : Type 0
  -- it is kept as it was
  pub KeptEarlier : Type 0
  -- it isn't migrated, for that fault
  pub Stays : OpenFault → Type 0
  -- its store was opened, and no other
  pub Opened : Type 0
  -- by its first number, the store began with that state
  pub Begins : ℕ → State → Type 0

-- of a console, before and behind
module _ {R W H E : Type 0} where
  abbrev pub input_of : Sources R → Console R W H E → Console R W H E → Input
  input_of g old new = record {
    before = g.left old.input;
    after = g.left new.input;
    calls = g.calls old.input;
    later = g.calls new.input;
    Untouched = new.input ≡ old.input;
    HasFailed = g.failed old.input < g.failed new.input;
    IsSound = g.failed new.input ≡ g.failed old.input;
  }

  abbrev pub output_of : Sinks W → Console R W H E → Console R W H E → WriterSeen
  output_of g old new = written_of g old.output new.output

  abbrev pub errors_of : Sinks E → Console R W H E → Console R W H E → WriterSeen
  errors_of g old new = written_of g old.errors new.errors

  abbrev pub console_outcome : Sinks W → Sinks E → Console R W H E → Console R W H E → (State → Type 0) → Outcome
  console_outcome w e old new Left = record { output = output_of w old new; errors = errors_of e old new; Left = Left }

-- of files, before and behind
abbrev pub filing_of : {F : Type 0} → Files F → F → F → FilesSeen
filing_of g old new = record {
  Untouched = new ≡ old;
  Makes = λ folder files. g.makes old folder files new;
  MakesNone = λ folder files fault. g.makes_none old folder files fault new;
}

-- of stores, before and behind, and the path of the one that is asked for
abbrev pub stored_of : {O Opened InMemory : Type 0} → Stores O Opened InMemory → O → O → List ℕ → StoresSeen
stored_of g old new path = record {
  Untouched = new ≡ old;
  Unopened = g.opens new ≡ g.opens old;
  Kept = (number : ℕ) (s : State) → g.keeps old path number s → g.keeps new path number s;
  Fails = IsFaultAt path (g.fails old path);
  Moved = g.is_clean new → (s : State) → g.keeps_earlier old path s → (number : ℕ) → g.keeps new path number (migrated_if_first s);
  KeptEarlier = (s : State) → g.keeps_earlier old path s → g.keeps_earlier new path s;
  Stays = IsStayAt path (g.stays old path);
  Opened = g.opens new ≡ g.opens old + opens_at (is_in_memory path);
  Begins = λ first s. StoreBegins path first (g.is_clean new) (g.keeps old path) s;
}
