-- Connections that are served one after the other, and what is said of them.
use Rattle.std.specs.Prelude.{◌≡◌, ◌≤◌, ◌⊎◌, ℕ, List, [], ◌∷◌, ◌++◌, length, codes, Option, Some, None, IfSome, Result, Ok, Err, true}
use Rattle.std.specs.List.{flat_map}
use Rattle.as2_exchange.specs.State.{State}
use Rattle.as2_host.specs.Networks.{ListenerSeen}
use Rattle.as2_http.specs.declared.stream.Served.{Served}
use Rattle.as2_host.specs.declared.stores.OpenFault.TheVariants as open_fault
use Rattle.as2_records.specs.Standing.{Medium, Standing, may_come}
use Rattle.as2_desk.specs.Endings.{Ends, EndsRefused}
use Rattle.as2_desk.specs.Observed.{Outcome}
use Rattle.as2_desk.specs.Refusals.{error_line, refusal_status}
use Rattle.as2_desk.specs.Statuses.{status_done, end_name}
use Rattle.as2_desk.specs.Written.{Breaks, BreaksBehind, WritesWhole, WriterSeen}
use Rattle.as2_desk.specs.declared.refusal.CommandFault.{CommandFault}
use Rattle.as2_desk.specs.declared.refusal.CommandFault.TheVariants.{CannotListen, CannotWrite, Memory, Store}
use Rattle.as2_desk.specs.declared.serving.Stop.{Stop}
use Rattle.as2_desk.specs.declared.serving.Stop.TheVariants.{Unwritten, Unreadable}
use Rattle.as2_desk.specs.declared.status.Ran.{Ran}

-- `connection: END`
abbrev pub connection_line : Served → List ℕ
connection_line end = codes "connection: " ++ (end_name end ++ codes "\n")

abbrev pub connection_lines : List Served → List ℕ
connection_lines ends = flat_map connection_line ends

-- `listening: ADDRESS`
abbrev pub listening_line : List ℕ → List ℕ
listening_line address = codes "listening: " ++ (address ++ codes "\n")

-- no more are served behind that line: it was written, and the records couldn't be read then; or a write failed in it
abbrev pub StopsAt : Stop → WriterSeen → List ℕ → Type 0
StopsAt (Unreadable fault) output line = WritesWhole output line × (may_come fault ≡ true)
StopsAt Unwritten output line = Breaks output line

-- .. or the line was written, and the records could be read
abbrev pub TellsNext : {V : Type 0} → Result V Stop → WriterSeen → List ℕ → Type 0
TellsNext (Ok v) output line = WritesWhole output line
TellsNext (Err stop) output line = StopsAt stop output line

-- One more connection was served and ended so (Ended), what it brought led the records on (Led), and that was told (Tells).
pub record ServesNext {M : Medium} (old new : Standing M) (Ended : Served → Type 0) (Led : Served → State → State → Type 0) (Tells : Served → Type 0) : Type 0 where
  pub end : Served
  pub ended : Ended end
  pub serves : new.IsClean → (s : State) → old.Rests s → (t : State) × new.Rests t × Led end s t
  pub line : Tells end

-- the lines of all but the last were written, and a part of its line, since a write failed
pub record StopsIn (ends : List Served) (output : WriterSeen) : Type 0 where
  pub told : List Served
  pub last : Served
  pub are : ends ≡ told ++ last ∷ []
  pub breaks : BreaksBehind output (connection_lines told) (connection_line last)

-- no more are served: the records couldn't be read behind the last line; or a write failed in it
abbrev pub StopsBy : Stop → List Served → WriterSeen → Type 0
StopsBy (Unreadable fault) ends output = WritesWhole output (connection_lines ends) × (may_come fault ≡ true)
StopsBy Unwritten ends output = StopsIn ends output

-- the lines of connections with these ends were written, as many as that; or no more were served than these, and no more than that
abbrev pub WritesLines : {V : Type 0} → ℕ → List Served → WriterSeen → Result V Stop → Type 0
WritesLines count ends output (Ok v) = (length ends ≡ count) × WritesWhole output (connection_lines ends)
WritesLines count ends output (Err stop) = (length ends ≤ count) × StopsBy stop ends output

-- Connections with these ends (Ended) were served, one after the other, what they brought led the records on (Led), and lines were written for them (Writes).
pub record ServesConnections {M : Medium} (old new : Standing M) (Ended : List Served → Type 0) (Led : List Served → State → State → Type 0)
    (Writes : List Served → Type 0) : Type 0 where
  pub clean : new.IsClean → old.IsClean
  pub ends : List Served
  pub ended : Ended ends
  pub led : new.IsClean → (s : State) → old.Rests s → (t : State) × new.Rests t × Led ends s t
  pub lines : Writes ends

-- Connections with these ends were awaited at that address. Where the state is known that the records stood for, their posts led
-- from it to a state that what is left stands for (Left).
abbrev pub AwaitsFrom : Option State → (State → Type 0) → ListenerSeen → List ℕ → List Served → Type 0
AwaitsFrom None Left l address ends = l.Awaited address ends
AwaitsFrom (Some s) Left l address ends = (t : State) × Left t × l.Led address ends s t

-- there is no listener at the address, or memory was wanting to say where one is: nothing is done, and nothing is written
pub record NeverListens (known : Option State) (o : Outcome) (l : ListenerSeen) (ran : Ran) : Type 0 where
  pub left : IfSome known o.Left
  pub unwritten : o.output.Untouched
  pub told : (l.Refused × EndsRefused CannotListen o.errors ran) ⊎ (l.Opened × EndsRefused Memory o.errors ran)

-- as many connections as were asked for, a line for each
pub record ServesAll (count : ℕ) (known : Option State) (o : Outcome) (l : ListenerSeen) (ran : Ran) : Type 0 where
  pub address : List ℕ
  pub ends : List Served
  pub awaits : AwaitsFrom known o.Left l address ends
  pub all : length ends ≡ count
  pub lines : WritesWhole o.output (connection_lines ends)
  pub told : Ends status_done (listening_line address) o.errors ran

-- how it is told that no more are served
abbrev pub stop_fault : Stop → CommandFault
stop_fault (Unreadable fault) = Store (open_fault.Store fault)
stop_fault Unwritten = CannotWrite

-- no more than that, until a line couldn't be written, or the records couldn't be read
pub record StopsEarly (count : ℕ) (known : Option State) (o : Outcome) (l : ListenerSeen) (ran : Ran) : Type 0 where
  pub address : List ℕ
  pub ends : List Served
  pub awaits : AwaitsFrom known o.Left l address ends
  pub within : length ends ≤ count
  pub stop : Stop
  pub lines : StopsBy stop ends o.output
  pub told : Ends (refusal_status (stop_fault stop)) (listening_line address ++ error_line (stop_fault stop)) o.errors ran

-- So many connections are awaited, and what they bring is served; or why not is told.
abbrev pub ServesCount : ℕ → Option State → Outcome → ListenerSeen → Ran → Type 0
ServesCount count known o l ran = NeverListens known o l ran ⊎ (ServesAll count known o l ran ⊎ StopsEarly count known o l ran)
