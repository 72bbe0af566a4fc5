-- An entry more, and what the statements that add it leave.
use Rattle.std.specs.Prelude.{◌≡◌, ◌≢◌, ℕ, ◌<◌, ◌^◌, List, ◌++◌, length, map, Option, Some, None, IfSome}
use Rattle.std.specs.List.{AllByRecursion}
use Rattle.sqlite.specs.Order.{Row}
use Rattle.sqlite.specs.Tree.{put_row}
use Rattle.sqlite.specs.State.{State as Connected}
use Rattle.sql_tables.specs.Changes.{ChangesTable, HasRows}
use Rattle.as2_exchange.specs.State.{State}
use Rattle.as2_rows.specs.Contents.{Piece, piece_shown}
use Rattle.as2_rows.specs.Waiting.{WaitingRow}
use Rattle.as2_store.specs.Tables.{Way, VersionThree, store_schema, inbox_piece_tree, outbox_piece_tree, waiting_tree, origin_tree, resent_tree, emptied_tables}
use Rattle.as2_store.specs.declared.contents.Mailbox.{Mailbox}
use Rattle.as2_store.specs.declared.contents.Mailbox.TheVariants.{Inbox, Outbox}
use Rattle.as2_store.specs.Stands.{HasCounters, HasEntries, HasOrigin, HasResent, AreEmptied, waiting_row}
use Rattle.sqlite.specs.Effect.{Database}

-- the numbers of an entry fit into columns
pub record EntryFits (content : List ℕ) (tries : ℕ) (due : Option ℕ) : Type 0 where
  pub length_fits : length content < 2 ^ 63
  pub tries_fit : tries < 2 ^ 63
  pub due_fits : IfSome due (λ due. due < 2 ^ 63)

-- the tree of the pieces of its contents
abbrev pub piece_tree : Way → Mailbox → ℕ
piece_tree way Inbox = inbox_piece_tree way
piece_tree way Outbox = outbox_piece_tree

-- pieces were put into a table beside those that were there, and the other tables are as they were
pub record AppendsPieces (way : Way) (old new : Connected) (tree : ℕ) (ps : List Piece) : Type 0 where
  pub schema_is : new.now.schema ≡ store_schema way
  pub pieces_are : (before : List Piece) → HasRows (old.now.trees tree) (map piece_shown before) → HasRows (new.now.trees tree) (map piece_shown (before ++ ps))
  pub others : AllByRecursion (λ t. t.tree ≢ tree → new.now.trees t.tree ≡ old.now.trees t.tree) (store_schema way).tables

-- a row was put in for what waits, if something does
abbrev pub NotesWaiting : Way → Connected → Connected → Option WaitingRow → Type 0
NotesWaiting way old new None = new.now ≡ old.now
NotesWaiting way old new (Some w) = ChangesTable old new (store_schema way) waiting_tree (put_row (waiting_row w) (old.now.trees waiting_tree))

-- the rows with one more for what waits, if something does
abbrev pub noted_rows : Option WaitingRow → List Row → List Row
noted_rows None rows = rows
noted_rows (Some w) rows = put_row (waiting_row w) rows

-- an entry of this number is in the tables, where that is the next one, as in the later state; the counter isn't raised yet
pub record IsEntered (way : Way) (d : Database) (s : State) (number next : ℕ) (later : State) : Type 0 where
  pub counters : HasCounters way d s.next_in s.next_out
  pub entries : number ≡ next → HasEntries (VersionThree way) d later
  pub version : HasOrigin (d.trees (origin_tree way)) later.version
  pub begun : number ≡ next → HasResent (d.trees (resent_tree way)) later.outbox
  pub left : AreEmptied (emptied_tables way) d
