-- The lines on standard error that say why something was refused.
use Rattle.std.specs.Prelude.{ℕ, List, [], ◌++◌, ◌==◌, Option, Some, None, codes, decimal, if◌then◌else◌}
use Rattle.as2_agreement.specs.Keys.{fault_key, fault_name, key_name}
use Rattle.as2_agreement.specs.declared.fault.AgreementFault.{AgreementFault}
use Rattle.as2_agreement.specs.declared.key.Key.{Key}
use Rattle.as2_exchange.specs.declared.answer.Refusal.{Refusal}
use Rattle.as2_exchange.specs.declared.answer.Refusal.TheVariants as station
use Rattle.as2_exchange.specs.declared.fault.StoreFault.{StoreFault}
use Rattle.as2_exchange.specs.declared.fault.StoreFault.TheVariants as store_fault
use Rattle.as2_exchange.specs.declared.place.RowPlace.{RowPlace}
use Rattle.as2_exchange.specs.declared.place.Table.{Table}
use Rattle.as2_exchange.specs.declared.place.Table.TheVariants as table
use Rattle.as2_desk.specs.Statuses.{end_name, status_failed, status_refused}
use Rattle.as2_http.specs.declared.stream.Served.{Served}
use Rattle.as2_http.specs.declared.stream.Served.TheVariants as end
use Rattle.as2_desk.specs.declared.refusal.CommandFault.{CommandFault}
use Rattle.as2_host.specs.declared.stores.OpenFault.{OpenFault}
use Rattle.as2_host.specs.declared.stores.OpenFault.TheVariants.{Held, LogAlone, Path, Store}
use Rattle.as2_host.specs.declared.stores.PathFault.{PathFault}
use Rattle.as2_host.specs.declared.stores.PathFault.TheVariants as path_fault
use Rattle.as2_desk.specs.declared.refusal.CommandFault.TheVariants as refusal

-- `refused: NAME`
abbrev pub refused_line : List ℕ → List ℕ
refused_line name = codes "refused: " ++ (name ++ codes "\n")

-- `agreements: NAME`, and the key where there is one
abbrev pub fault_name_line : List ℕ → Option Key → List ℕ
fault_name_line name None = codes "agreements: " ++ (name ++ codes "\n")
fault_name_line name (Some key) = codes "agreements: " ++ (name ++ (codes " " ++ (key_name key ++ codes "\n")))

abbrev pub agreements_line : AgreementFault → List ℕ
agreements_line fault = fault_name_line (fault_name fault) (fault_key fault)

-- a row that is damaged is told as what the database refuses; where it stands has a line of its own
abbrev pub store_fault_name : StoreFault → List ℕ
store_fault_name store_fault.Memory = codes "Memory"
store_fault_name store_fault.Disk = codes "Disk"
store_fault_name store_fault.Refused = codes "Refused"
store_fault_name (store_fault.Damaged place) = codes "Refused"
store_fault_name store_fault.Full = codes "Full"
store_fault_name store_fault.NotAStore = codes "NotAStore"
store_fault_name store_fault.OtherVersion = codes "OtherVersion"

-- what may help where a path can't be opened, in a line of its own
abbrev pub path_hint : PathFault → List ℕ
path_hint path_fault.NoFolder = codes "\nhint: the folder that it stands in isn't there\n"
path_hint path_fault.NoRight = codes "\nhint: there is no right to read and write it and its folder\n"
path_hint path_fault.NoFile = codes "\nhint: what stands there is no file of its own: a folder, a link to nothing, or a file with two names\n"
path_hint path_fault.Journal = codes "\nhint: SQLite left a journal beside it; open it with sqlite3 first\n"
path_hint path_fault.NoRoom = codes "\nhint: the disk has no room\n"
path_hint path_fault.Other = codes "\nhint: the file system can't open it\n"

-- a table, as SQLite's statements name it
abbrev pub table_name : Table → List ℕ
table_name table.Meta = codes "meta"
table_name table.Inbox = codes "inbox2"
table_name table.InboxPiece = codes "inbox2_piece"
table_name table.Outbox = codes "outbox"
table_name table.OutboxPiece = codes "outbox_piece"
table_name table.Evidence = codes "evidence"
table_name table.Waiting = codes "waiting"
table_name table.Origin = codes "origin"
table_name table.Resent = codes "resent"

-- the number of the entry that a row is of, where one can be read
abbrev pub number_words : ℕ → List ℕ
number_words number = if number == 0 then [] else codes ", number " ++ decimal number

-- where the row stands that is damaged
abbrev pub damaged_lines : RowPlace → List ℕ
damaged_lines place =
    codes "store: Refused\nhint: table " ++ (table_name place.table ++ (number_words place.number ++ codes ": a row is damaged or missing\n"))

-- `store: NAME`, and behind it what may help
abbrev pub store_lines : OpenFault → List ℕ
store_lines Held = codes "store: Refused\nhint: another process has the file open; a station that is starting can be asked in a moment\n"
store_lines LogAlone = codes "store: Refused\nhint: the file isn't there, but a log of it is; nothing was made\n"
store_lines (Path fault) = codes "store: " ++ (codes "Refused" ++ path_hint fault)
store_lines (Store store_fault.OtherVersion) = codes "store: OtherVersion\nhint: stores of version 3 are read; 'migrate' makes one of a store of version 1 or 2\n"
store_lines (Store (store_fault.Damaged place)) = damaged_lines place
store_lines (Store fault) = codes "store: " ++ (store_fault_name fault ++ codes "\n")

abbrev pub refusal_name : Refusal → List ℕ
refusal_name station.UnknownOrganization = codes "UnknownOrganization"
refusal_name station.UnknownPartner = codes "UnknownPartner"
refusal_name station.NoSuchNumber = codes "NoSuchNumber"
refusal_name station.NotDue = codes "NotDue"
refusal_name station.AllSettled = codes "AllSettled"
refusal_name station.NoOpenTry = codes "NoOpenTry"
refusal_name station.TriesUsed = codes "TriesUsed"
refusal_name station.TooLarge = codes "TooLarge"

-- the line of a refusal
abbrev pub error_line : CommandFault → List ℕ
error_line refusal.CannotRead = refused_line (codes "CannotRead")
error_line refusal.CannotWrite = refused_line (codes "CannotWrite")
error_line refusal.Exists = codes "refused: CannotWrite\nhint: something of that name is there; nothing was made\n"
error_line refusal.Memory = refused_line (codes "Memory")
error_line (refusal.Agreements fault) = agreements_line fault
error_line (refusal.Store fault) = store_lines fault
error_line (refusal.Stream ended) = refused_line (end_name ended)
error_line (refusal.Station reason) = refused_line (refusal_name reason)
error_line refusal.CannotListen = refused_line (codes "CannotListen")
error_line refusal.NoStation = refused_line (codes "NoStation")
error_line refusal.StationRuns = refused_line (codes "StationRuns")
error_line refusal.OtherAgreements = refused_line (codes "OtherAgreements")

-- the exit status that goes with it
abbrev pub refusal_status : CommandFault → ℕ
refusal_status (refusal.Store fault) = status_failed
refusal_status other = status_refused

-- what there is to say of the end of a stream: nothing where it is in good order
abbrev pub end_line : Served → List ℕ
end_line end.Closed = codes ""
end_line ended = error_line (refusal.Stream ended)
