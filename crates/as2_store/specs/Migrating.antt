-- Tables of an earlier version become those of the version that is read.
use Rattle.std.specs.Prelude.{◌≡◌, ◌⊎◌, ℕ, ◌==◌, ◌||◌, Bool, true, false, if◌then◌else◌, List, [], ◌∷◌, ◌++◌, map, codes, bytes_eq, Option, Some, None, IsPermutation, IsTrue}
use Rattle.sqlite_trees.specs.Tree.{Trees}
use Rattle.sqlite.specs.Schema.{Schema}
use Rattle.sqlite.specs.Effect.{Database}
use Rattle.sqlite.specs.State.{State as Connected, HasCleanDisk, Survives}
use Rattle.as2_exchange.specs.Invariants.{IsCounter, AreNumbers}
use Rattle.as2_exchange.specs.Run.{migrated_state}
use Rattle.as2_exchange.specs.State.{State}
use Rattle.as2_exchange.specs.declared.fault.StoreFault.{StoreFault}
use Rattle.as2_exchange.specs.declared.fault.StoreFault.TheVariants.{Full, NotAStore, OtherVersion}
use Rattle.as2_records.specs.Standing.{may_come}
use Rattle.as2_rows.specs.Contents.{Piece, piece_shown}
use Rattle.as2_rows.specs.Rows.{in_row, out_row}
use Rattle.sql_tables.specs.Changes.{HasRows}
use Rattle.as2_store.specs.Calls.{KeepsNextTables, ReachesTables}
use Rattle.as2_store.specs.Stands.{Stands, Holds, HasEntries, HasOrigin, HasResent, AreEmptied, IsBlank, MetaSays, all_waiting, evidence_rows, inbox_pieces, meta_row, numbers_of, outbox_pieces, waiting_row}
use Rattle.as2_store.specs.Tables.{Way, Migrated, Layout, VersionOne, VersionTwo, VersionThree, store_schema, behind_meta, meta_table, inbox_table, inbox_piece_table, first_inbox_indexes, inbox_indexes, outbox_indexes, waiting_indexes, meta_tree, inbox_tree, inbox_piece_tree, first_inbox_tree, first_piece_tree, outbox_tree, outbox_piece_tree, evidence_tree, waiting_tree, origin_tree, resent_tree, emptied_tables}

-- ---- the call

-- outside a transaction the tables are of this version and stand for this state, unless a fault of the disk has shut the connection
pub record RestsAs (layout : Layout) (c : Connected) (s : State) : Type 0 where
  pub autocommit : c.in_transaction ≡ false
  pub stands : IsTrue c.is_open → Stands layout c.now s
  pub committed : IsTrue c.is_open → c.committed ≡ c.now

-- the state once tables of this version are migrated; those of the version that is read are not
abbrev pub migrated_from : Layout → State → Option State
migrated_from VersionOne s = Some (migrated_state s)
migrated_from (VersionTwo way) s = Some s
migrated_from (VersionThree way) s = None

-- what kind and version say of a migration
abbrev pub migration_fault : List ℕ → ℕ → Option StoreFault
migration_fault kind version = if bytes_eq kind (codes "as2-station") then (if version == 1 || version == 2 then None else Some OtherVersion) else Some NotAStore

-- what it commits, over an open connection: the state that is next to each that tables of any version stood for
pub record CommitsMigrated (old : Connected) (db : Trees) : Type 0 where
  pub was_open : IsTrue old.is_open
  pub stands : (layout : Layout) (s : State) → RestsAs layout old s → KeepsNextTables db (migrated_from layout s)

-- the tables were of an earlier version, and are of the one that is read
pub record Migrates (old new : Connected) : Type 0 where
  pub clean : HasCleanDisk new → HasCleanDisk old
  pub is_open : HasCleanDisk new → IsTrue new.is_open
  pub done : HasCleanDisk new → (layout : Layout) (s : State) → RestsAs layout old s → ReachesTables new (migrated_from layout s)
  pub migration_fault : HasCleanDisk new → (kind : List ℕ) (version : ℕ) → MetaSays old kind version → migration_fault kind version ≡ None
  pub no_blank : HasCleanDisk new → ¬ IsBlank old
  pub crash : Survives old new (CommitsMigrated old)

abbrev pub is_full : StoreFault → Bool
is_full Full = true
is_full other = false

-- Why tables aren't migrated. It is never that numbers are used up. It may be a fault that may come from any call, and of a store of an earlier
-- version it is one. Else it is what the row of `meta` says, where that can be read. A database without tables is no store.
pub record IsMigrationReason (old : Connected) (f : StoreFault) : Type 0 where
  pub not_full : is_full f ≡ false
  pub of_earlier : (layout : Layout) (s state : State) → RestsAs layout old s → migrated_from layout s ≡ Some state → may_come f ≡ true
  pub of_row : (kind : List ℕ) (version : ℕ) → MetaSays old kind version → (may_come f ≡ true) ⊎ (migration_fault kind version ≡ Some f)
  pub of_blank : IsBlank old → (may_come f ≡ true) ⊎ (f ≡ NotAStore)

-- ---- on the way

-- the schema of the first version, with the later tables of the inbox beside its own
abbrev pub beside_schema : Schema
beside_schema = record {
  tables = meta_table ∷ (behind_meta VersionOne ++ inbox_table Migrated ∷ inbox_piece_table Migrated ∷ []);
  indexes = first_inbox_indexes ++ (outbox_indexes ++ (waiting_indexes ++ inbox_indexes Migrated));
  views = [];
}

-- tables of the first version, with the later ones of the inbox beside them, which have no row yet
pub record IsInboxBeside (d : Database) (s : State) : Type 0 where
  pub schema : d.schema ≡ beside_schema
  pub meta : d.trees meta_tree ≡ meta_row 1 s.next_in s.next_out ∷ []
  pub entries : HasEntries VersionOne d s
  pub no_inbox : d.trees (inbox_tree Migrated) ≡ []
  pub no_piece : d.trees (inbox_piece_tree Migrated) ≡ []

-- and with all later ones
pub record IsBeside (d : Database) (s : State) : Type 0 where
  pub schema : d.schema ≡ store_schema Migrated
  pub meta : d.trees meta_tree ≡ meta_row 1 s.next_in s.next_out ∷ []
  pub entries : HasEntries VersionOne d s
  pub no_inbox : d.trees (inbox_tree Migrated) ≡ []
  pub no_piece : d.trees (inbox_piece_tree Migrated) ≡ []
  pub no_origin : d.trees (origin_tree Migrated) ≡ []
  pub no_resent : d.trees (resent_tree Migrated) ≡ []

-- The entries of the inbox were copied to the later table. The pieces of their contents are shared out: some were moved to the later table of pieces,
-- and some are left.
pub record AreShared (d : Database) (s : State) : Type 0 where
  pub schema : d.schema ≡ store_schema Migrated
  pub meta : d.trees meta_tree ≡ meta_row 1 s.next_in s.next_out ∷ []
  pub first_inbox : d.trees first_inbox_tree ≡ map in_row s.inbox
  pub inbox : d.trees (inbox_tree Migrated) ≡ map in_row s.inbox
  pub moved : List Piece
  pub left : List Piece
  pub all : IsPermutation (moved ++ left) (inbox_pieces s.inbox)
  pub contents : HasRows (d.trees (inbox_piece_tree Migrated)) (map piece_shown moved)
  pub first_contents : HasRows (d.trees first_piece_tree) (map piece_shown left)
  pub outbox : d.trees outbox_tree ≡ map out_row s.outbox
  pub outbox_contents : HasRows (d.trees outbox_piece_tree) (map piece_shown (outbox_pieces s.outbox))
  pub evidence : d.trees evidence_tree ≡ evidence_rows s.outbox
  pub waits : d.trees waiting_tree ≡ map waiting_row (all_waiting s)
  pub no_origin : d.trees (origin_tree Migrated) ≡ []
  pub no_resent : d.trees (resent_tree Migrated) ≡ []

-- all contents were moved, and the entries were copied
pub record IsCopied (d : Database) (s : State) : Type 0 where
  pub schema : d.schema ≡ store_schema Migrated
  pub meta : d.trees meta_tree ≡ meta_row 1 s.next_in s.next_out ∷ []
  pub entries : HasEntries (VersionThree Migrated) d s
  pub first_inbox : d.trees first_inbox_tree ≡ map in_row s.inbox
  pub no_content : d.trees first_piece_tree ≡ []
  pub no_origin : d.trees (origin_tree Migrated) ≡ []
  pub no_resent : d.trees (resent_tree Migrated) ≡ []

-- and the first version's tables of the inbox are empty
pub record IsMoved (d : Database) (s : State) : Type 0 where
  pub schema : d.schema ≡ store_schema Migrated
  pub meta : d.trees meta_tree ≡ meta_row 1 s.next_in s.next_out ∷ []
  pub entries : HasEntries (VersionThree Migrated) d s
  pub left : AreEmptied (emptied_tables Migrated) d
  pub no_origin : d.trees (origin_tree Migrated) ≡ []
  pub no_resent : d.trees (resent_tree Migrated) ≡ []

-- the tables are those of the version that is read, but for the version's number in `meta`
pub record StandsBut (number : ℕ) (way : Way) (d : Database) (s : State) : Type 0 where
  pub schema : d.schema ≡ store_schema way
  pub meta : d.trees meta_tree ≡ meta_row number s.next_in s.next_out ∷ []
  pub entries : HasEntries (VersionThree way) d s
  pub version : HasOrigin (d.trees (origin_tree way)) s.version
  pub begun : HasResent (d.trees (resent_tree way)) s.outbox
  pub left : AreEmptied (emptied_tables way) d
  pub receipts : IsCounter s.next_in × AreNumbers s.next_in (map (λ e. e.number) s.inbox)
  pub documents : IsCounter s.next_out × AreNumbers s.next_out (numbers_of s.outbox)

-- the tables are those of the state that is next to the one that tables of this version stood for, but for the version's number
pub record IsNearly (layout : Layout) (d : Database) (s : State) : Type 0 where
  pub state : State
  pub is : migrated_from layout s ≡ Some state
  pub number : ℕ
  pub way : Way
  pub stands : StandsBut number way d state

-- and with it
pub record StandsForMigrated (layout : Layout) (d : Database) (s : State) : Type 0 where
  pub state : State
  pub is : migrated_from layout s ≡ Some state
  pub holds : Holds d state
