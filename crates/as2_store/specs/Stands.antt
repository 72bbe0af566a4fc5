-- What the tables stand for: a state of the exchange machine.
use Rattle.std.specs.Prelude.{◌≡◌, ℕ, ◌+◌, ◌*◌, ◌==◌, nat_le, ◌&&◌, ◌||◌, List, [], ◌∷◌, ◌++◌, map, codes, bytes_eq, Option, Some, None, option_map, IsTrue, Bool, true, false, if◌then◌else◌}
use Rattle.std.specs.List.{AllByRecursion, filter, filter_map, flat_map}
use Rattle.sqlite.specs.declared.types.Value.TheVariants.{Null, Text}
use Rattle.sqlite.specs.Order.{Row}
use Rattle.sqlite.specs.Effect.{Database, IsDatabase}
use Rattle.sqlite.specs.Schema.{Schema}
use Rattle.sqlite.specs.Table.{Table}
use Rattle.sqlite_schema.specs.declared.schema.Index.{Index}
use Rattle.sqlite.specs.State.{State as Connected}
use Rattle.sql_tables.specs.Changes.{HasRows}
use Rattle.as2_exchange.specs.State.{State, Version, FirstVersion, LaterVersion, AllDigests, state_digests, end_of_numbers}
use Rattle.as2_exchange.specs.declared.inbox.InEntry.{InEntry}
use Rattle.as2_exchange.specs.declared.outbox.OutEntry.{OutEntry}
use Rattle.as2_exchange.specs.Invariants.{IsCounter, AreNumbers}
use Rattle.sqlite.specs.declared.error.Error.{Error}
use Rattle.sqlite.specs.declared.error.Error.TheVariants.{SqliteFailure}
use Rattle.sqlite.specs.declared.error.ErrorCode.TheVariants as code
use Rattle.as2_exchange.specs.declared.fault.StoreFault.{StoreFault}
use Rattle.as2_exchange.specs.declared.fault.StoreFault.TheVariants.{Memory, Disk, Refused, Damaged, NotAStore, OtherVersion}
use Rattle.as2_exchange.specs.declared.place.RowPlace.{RowPlace}
use Rattle.as2_exchange.specs.declared.place.Table.{Table as ATable}
use Rattle.as2_exchange.specs.declared.place.Table.TheVariants as table
use Rattle.as2_records.specs.Standing.{may_come}
use Rattle.as2_rows.specs.declared.fault.RowFault.{RowFault}
use Rattle.as2_rows.specs.declared.fault.RowFault.TheVariants as row
use Rattle.as2_rows.specs.Rows.{whole, in_row, out_row, evidence_row}
use Rattle.as2_rows.specs.Contents.{Piece, pieces, piece_shown}
use Rattle.as2_rows.specs.Waiting.{WaitingRow, waiting_in, waiting_out, waiting_shown, to_send, to_hear, to_end}
use Rattle.as2_store.specs.Tables.{Way, Layout, VersionOne, VersionTwo, VersionThree, number_of, current_number, no_schema, schema_of, meta_table, meta_tree, inbox_at, inbox_piece_at, emptied_at, outbox_tree, outbox_piece_tree, evidence_tree, waiting_tree, origin_tree, resent_tree}

-- ---- contents

-- the pieces of a content are its rows by number and position - 0 upwards, 65,536 bytes each but the last, and nothing
-- else - in whatever order they were put in
abbrev pub inbox_pieces : List InEntry → List Piece
inbox_pieces inbox = flat_map (λ e. pieces e.number e.posted.content) inbox

abbrev pub outbox_pieces : List OutEntry → List Piece
outbox_pieces outbox = flat_map (λ d. pieces d.number d.content) outbox

-- ---- evidence

-- a row for each document that has evidence
abbrev pub evidence_rows : List OutEntry → List Row
evidence_rows outbox = filter_map (λ d. option_map (evidence_row d.number) d.evidence) outbox

-- ---- what waits

-- where it stands: one kind after the other, each in order of number
abbrev pub place : WaitingRow → ℕ
place w = w.kind * end_of_numbers + w.number

abbrev pub waiting_row : WaitingRow → Row
waiting_row w = whole (place w) ∷ Null ∷ waiting_shown w

-- what waits of this kind, in the outbox
abbrev pub documents_waiting : ℕ → List OutEntry → List WaitingRow
documents_waiting kind outbox = filter (λ w. w.kind == kind) (waiting_out outbox)

-- all that waits, in the order of the places: documents to send, receipts to send, receipts awaited, last tries
abbrev pub all_waiting : State → List WaitingRow
all_waiting s = documents_waiting to_send s.outbox ++ (waiting_in s.inbox ++ (documents_waiting to_hear s.outbox ++ documents_waiting to_end s.outbox))

-- ---- the counters

-- the columns: kind, version, the next numbers of a receipt and of a document
abbrev pub meta_shown : ℕ → ℕ → ℕ → Row
meta_shown version next_receipt next_document = Text (codes "as2-station") ∷ whole version ∷ whole next_receipt ∷ whole next_document ∷ []

-- as they are stored: the only row, whose number is 1
abbrev pub meta_row : ℕ → ℕ → ℕ → Row
meta_row version next_receipt next_document = whole 1 ∷ meta_shown version next_receipt next_document

-- ---- what later versions keep beside

-- the number below which receipts were recorded by the first version, in the only row
abbrev pub origin_row : ℕ → Row
origin_row number = whole 1 ∷ whole number ∷ []

-- the version is a later one, with the origin of the one row
pub record HasOrigin (rows : List Row) (version : Version) : Type 0 where
  pub number : ℕ
  pub rows_are : rows ≡ origin_row number ∷ []
  pub version_is : version ≡ LaterVersion number

-- the number of a document that was sent anew
abbrev pub resent_row : ℕ → Row
resent_row number = whole number ∷ Null ∷ []

abbrev pub numbers_of : List OutEntry → List ℕ
numbers_of outbox = map (λ d. d.number) outbox

-- The rows are of documents alone, at most one for each. A document is begun exactly where it was tried since it was last queued, or
-- has a row. The state doesn't say which documents have one.
pub record HasResent (rows : List Row) (outbox : List OutEntry) : Type 0 where
  pub was : ℕ → Bool
  pub rows_are : rows ≡ map resent_row (filter was (numbers_of outbox))
  pub begun : AllByRecursion (λ d. d.begun ≡ (nat_le 1 d.tries || was d.number)) outbox

-- a document is begun exactly where it was tried
abbrev pub AreTried : List OutEntry → Type 0
AreTried outbox = AllByRecursion (λ d. d.begun ≡ nat_le 1 d.tries) outbox

-- ---- the state

-- `meta` is that of the current version, and the next numbers are these
pub record HasCounters (way : Way) (d : Database) (next_in next_out : ℕ) : Type 0 where
  pub schema : d.schema ≡ schema_of (VersionThree way)
  pub meta : d.trees meta_tree ≡ meta_row current_number next_in next_out ∷ []

-- beside `meta`, the tables hold exactly the entries of this state
pub record HasEntries (layout : Layout) (d : Database) (s : State) : Type 0 where
  pub inbox : d.trees (inbox_at layout) ≡ map in_row s.inbox
  pub inbox_contents : HasRows (d.trees (inbox_piece_at layout)) (map piece_shown (inbox_pieces s.inbox))
  pub outbox : d.trees outbox_tree ≡ map out_row s.outbox
  pub outbox_contents : HasRows (d.trees outbox_piece_tree) (map piece_shown (outbox_pieces s.outbox))
  pub evidence : d.trees evidence_tree ≡ evidence_rows s.outbox
  pub waits : d.trees waiting_tree ≡ map waiting_row (all_waiting s)

-- the version of the state
abbrev pub HasVersion : Layout → Database → Version → Type 0
HasVersion VersionOne d version = version ≡ FirstVersion
HasVersion (VersionTwo way) d version = HasOrigin (d.trees (origin_tree way)) version
HasVersion (VersionThree way) d version = HasOrigin (d.trees (origin_tree way)) version

-- which documents are begun
abbrev pub AreBegun : Layout → Database → List OutEntry → Type 0
AreBegun VersionOne d outbox = AreTried outbox
AreBegun (VersionTwo way) d outbox = AreTried outbox
AreBegun (VersionThree way) d outbox = HasResent (d.trees (resent_tree way)) outbox

-- tables of the first version that were migrated are there still, without rows
abbrev pub AreEmptied : List ℕ → Database → Type 0
AreEmptied trees d = AllByRecursion (λ tree. d.trees tree ≡ []) trees

-- the catalog lists the tables of the schema, and each tree is in order
unfoldable pub IsWhole : Database → Type 0
IsWhole d = IsDatabase d

-- The tables are those of this version and stand for this state. They are these and no others. `meta` has the counters, and the
-- counters are above all numbers. The tables stand for no other state (the law `one_state_stands`).
pub record Stands (layout : Layout) (d : Database) (s : State) : Type 0 where
  pub sound : IsWhole d
  pub schema : d.schema ≡ schema_of layout
  pub meta : d.trees meta_tree ≡ meta_row (number_of layout) s.next_in s.next_out ∷ []
  pub entries : HasEntries layout d s
  pub version : HasVersion layout d s.version
  pub begun : AreBegun layout d s.outbox
  pub left : AreEmptied (emptied_at layout) d
  pub receipts : IsCounter s.next_in × AreNumbers s.next_in (map (λ e. e.number) s.inbox)
  pub documents : IsCounter s.next_out × AreNumbers s.next_out (numbers_of s.outbox)

-- the tables are of the version that is made and read, and stand for this state
pub record Holds (d : Database) (s : State) : Type 0 where
  pub way : Way
  pub stands : Stands (VersionThree way) d s

-- the tables hold this state, unless a fault of the disk has shut the connection
abbrev pub HoldsIfOpen : Connected → State → Type 0
HoldsIfOpen c s = IsTrue c.is_open → Holds c.now s

-- Outside a transaction the tables hold this state, unless a fault of the disk has shut the connection. The state is of a version
-- that knows each digest.
pub record Rests (c : Connected) (s : State) : Type 0 where
  pub autocommit : c.in_transaction ≡ false
  pub stands : IsTrue c.is_open → Holds c.now s
  pub committed : IsTrue c.is_open → c.committed ≡ c.now
  pub knows : state_digests s ≡ AllDigests

-- outside a transaction there is no table, unless a fault of the disk has shut the connection
pub record IsBlank (c : Connected) : Type 0 where
  pub autocommit : c.in_transaction ≡ false
  pub no_table : IsTrue c.is_open → c.now.schema ≡ no_schema
  pub committed : IsTrue c.is_open → c.committed ≡ c.now

-- the tables of the schema are there, and no row
pub record HasNoRow (d : Database) (schema : Schema) : Type 0 where
  pub schema_is : d.schema ≡ schema
  pub empty : AllByRecursion (λ t. d.trees t.tree ≡ []) schema.tables

-- ---- faults

-- the fault that an error of SQLite is
abbrev pub fault_by : Error → StoreFault
fault_by (SqliteFailure code.OutOfMemory) = Memory
fault_by (SqliteFailure code.SystemIoFailure) = Disk
fault_by (SqliteFailure code.DatabaseCorrupt) = Disk
fault_by (SqliteFailure code.DiskFull) = Disk
fault_by (SqliteFailure code.Closed) = Disk
fault_by other = Refused

-- the fault that it is that the row of this place can't be read
abbrev pub row_fault : RowPlace → RowFault → StoreFault
row_fault place row.Memory = Memory
row_fault place row.NotAnEntry = Damaged place

-- the same of one of its columns
abbrev pub column_fault : RowPlace → Error → StoreFault
column_fault place (SqliteFailure kind) = fault_by (SqliteFailure kind)
column_fault place other = Damaged place

-- a fault that may come from any call; where it is of a row that is damaged, of one of these
abbrev pub comes_of : (RowPlace → Bool) → StoreFault → Bool
comes_of is_there (Damaged place) = is_there place
comes_of is_there fault = may_come fault

abbrev pub same_table : ATable → ATable → Bool
same_table table.Meta table.Meta = true
same_table table.Inbox table.Inbox = true
same_table table.InboxPiece table.InboxPiece = true
same_table table.Outbox table.Outbox = true
same_table table.OutboxPiece table.OutboxPiece = true
same_table table.Evidence table.Evidence = true
same_table table.Waiting table.Waiting = true
same_table table.Origin table.Origin = true
same_table table.Resent table.Resent = true
same_table a b = false

-- a row of this table
abbrev pub is_row_of : ATable → RowPlace → Bool
is_row_of t place = same_table t place.table

-- one of the entry of this number
abbrev pub is_row_at : ATable → ℕ → RowPlace → Bool
is_row_at t number place = same_table t place.table && place.number == number

-- a row that an entry of the inbox is read of
abbrev pub is_in_inbox : RowPlace → Bool
is_in_inbox place = is_row_of table.Inbox place || is_row_of table.InboxPiece place

-- a row that a document of the outbox is read of
abbrev pub is_in_outbox : RowPlace → Bool
is_in_outbox place = is_row_of table.Outbox place || (is_row_of table.OutboxPiece place || is_row_of table.Evidence place)

-- what kind and version say
abbrev pub adoption_fault : List ℕ → ℕ → Option StoreFault
adoption_fault kind version = if bytes_eq kind (codes "as2-station") then (if version == current_number then None else Some OtherVersion) else Some NotAStore

-- the table `meta` of this version stands before all others, and its row says this kind and this version
pub record MetaSays (c : Connected) (kind : List ℕ) (version : ℕ) : Type 0 where
  pub next_receipt : ℕ
  pub next_document : ℕ
  pub tables : List Table
  pub indexes : List Index
  pub schema : c.now.schema ≡ record { tables = meta_table ∷ tables; indexes = indexes; views = [] }
  pub meta : c.now.trees meta_tree ≡ (whole 1 ∷ Text kind ∷ whole version ∷ whole next_receipt ∷ whole next_document ∷ []) ∷ []
