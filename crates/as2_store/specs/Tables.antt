-- The tables of the store, by their version.
use Rattle.std.specs.Prelude.{true, false, [], ◌∷◌, ◌++◌, Some, None, codes, List, ℕ, ◌+◌, map, Option, pos}
use Rattle.std.specs.Fmt.{decimal}
use Rattle.sqlite.specs.Collation.TheVariants.{Binary}
use Rattle.sqlite.specs.declared.types.Value.TheVariants.{Null, Int, Text as Words}
use Rattle.sqlite.specs.Term.{Term, lit, col, op2}
use Rattle.sqlite.specs.Table.{Table}
use Rattle.sqlite.specs.Schema.{Schema}
use Rattle.sqlite.specs.Kind.{Kind}
use Rattle.sqlite.specs.Kind.TheVariants.{Integer, Text, Blob}
use Rattle.sqlite_schema.specs.declared.schema.Column.{Column}
use Rattle.sqlite_schema.specs.declared.schema.Index.{Index}
use Rattle.sqlite_schema.specs.declared.schema.Reference.{Reference}
use Rattle.sqlite_schema.specs.declared.schema.Action.TheVariants.{NoAction}
use Rattle.sqlite_sql.specs.declared.ops.BinaryOp.TheVariants.{Compare, And, Or}
use Rattle.sqlite_sql.specs.declared.ops.CompareOp.TheVariants.{Eq, Le, Ge}

-- ---- columns and tables

abbrev pub needed_column : List ℕ → Kind → Column
needed_column name kind = record { name = name; kind = kind; is_strict = true; not_null = true; default = Null; collation = Binary }

abbrev pub optional : List ℕ → Kind → Column
optional name kind = record { name = name; kind = kind; is_strict = true; not_null = false; default = Null; collation = Binary }

-- the whole number in this column is at least the one and at most the other
abbrev pub within : ℕ → ℕ → ℕ → Term
within column low high = op2 And (op2 (Compare Ge Binary) (col 1 column) (lit (Int (pos low)))) (op2 (Compare Le Binary) (col 1 column) (lit (Int (pos high))))

-- a column that names an entry of that table
abbrev pub refers : ℕ → List ℕ → Reference
refers column parent = record { columns = column ∷ []; parent = parent; parent_columns = codes "number" ∷ []; on_delete = NoAction; on_update = NoAction; is_deferred = false }

-- a table as its text has it, before it has its tree
abbrev pub table : List ℕ → List Column → Option ℕ → List ℕ → List (List ℕ) → List Term → List Reference → Table
table name columns key primary uniques checks references = record {
  name = name;
  tree = 0;
  columns = columns;
  key = key;
  primary = primary;
  uniques = uniques;
  orders = map (λ _. record { digits = 0 }) uniques;
  checks = checks;
  references = references;
  computed = [];
  stamps = record { places = []; terms = []; formats = [] };
  is_counted = false;
}

abbrev pub meta_made : Table
meta_made = table (codes "meta")
    (needed_column (codes "kind") Text ∷ needed_column (codes "version") Integer ∷ needed_column (codes "next_receipt") Integer ∷ needed_column (codes "next_document") Integer ∷ [])
    None [] [] [] []

-- it is the name of this digest
abbrev pub is_digest : List ℕ → Term
is_digest name = op2 (Compare Eq Binary) (col 1 12) (lit (Words name))

abbrev pub inbox_columns : List Column
inbox_columns =
    optional (codes "number") Integer ∷ needed_column (codes "sender") Blob ∷ needed_column (codes "receiver") Blob ∷ needed_column (codes "identifier_value") Blob ∷ needed_column (codes "identifier") Blob
    ∷ needed_column (codes "content_type") Blob ∷ needed_column (codes "length") Integer ∷ needed_column (codes "moment") Integer ∷ needed_column (codes "outcome") Integer ∷ needed_column (codes "how") Integer
    ∷ optional (codes "url") Blob ∷ optional (codes "digest") Text ∷ optional (codes "mic") Blob ∷ needed_column (codes "mdn") Integer ∷ needed_column (codes "tries") Integer
    ∷ needed_column (codes "attempt") Integer ∷ optional (codes "due") Integer ∷ []

-- the inbox of the first version
abbrev pub inbox_made : Table
inbox_made = table (codes "inbox") inbox_columns (Some 0) (0 ∷ []) ((2 ∷ 3 ∷ 4 ∷ []) ∷ []) (within 9 1 6 ∷ op2 Or (is_digest (codes "sha1")) (is_digest (codes "md5")) ∷ []) []

-- that of the later ones, which know a digest more
abbrev pub inbox2_made : Table
inbox2_made = table (codes "inbox2") inbox_columns (Some 0) (0 ∷ []) ((2 ∷ 3 ∷ 4 ∷ []) ∷ [])
    (within 9 1 6 ∷ op2 Or (op2 Or (is_digest (codes "sha1")) (is_digest (codes "md5"))) (is_digest (codes "sha-256")) ∷ []) []

abbrev pub piece_columns : List Column
piece_columns = needed_column (codes "number") Integer ∷ needed_column (codes "position") Integer ∷ needed_column (codes "bytes") Blob ∷ []

abbrev pub inbox_piece_made : Table
inbox_piece_made = table (codes "inbox_piece") piece_columns None (1 ∷ 2 ∷ []) ((1 ∷ 2 ∷ []) ∷ []) [] (refers 1 (codes "inbox") ∷ [])

abbrev pub inbox2_piece_made : Table
inbox2_piece_made = table (codes "inbox2_piece") piece_columns None (1 ∷ 2 ∷ []) ((1 ∷ 2 ∷ []) ∷ []) [] (refers 1 (codes "inbox2") ∷ [])

abbrev pub outbox_made : Table
outbox_made = table (codes "outbox")
    (optional (codes "number") Integer ∷ needed_column (codes "organization") Blob ∷ needed_column (codes "partner") Blob ∷ needed_column (codes "identifier_value") Blob ∷ needed_column (codes "identifier") Blob ∷ needed_column (codes "length") Integer
    ∷ needed_column (codes "moment") Integer ∷ needed_column (codes "tries") Integer ∷ needed_column (codes "attempt") Integer ∷ optional (codes "due") Integer ∷ needed_column (codes "detail") Integer ∷ [])
    (Some 0) (0 ∷ []) ((4 ∷ []) ∷ []) (within 11 1 14 ∷ []) []

abbrev pub outbox_piece_made : Table
outbox_piece_made = table (codes "outbox_piece") piece_columns None (1 ∷ 2 ∷ []) ((1 ∷ 2 ∷ []) ∷ []) [] (refers 1 (codes "outbox") ∷ [])

abbrev pub evidence_made : Table
evidence_made = table (codes "evidence")
    (optional (codes "number") Integer ∷ needed_column (codes "moment") Integer ∷ needed_column (codes "content_type") Blob ∷ needed_column (codes "body") Blob ∷ [])
    (Some 0) (0 ∷ []) [] [] (refers 0 (codes "outbox") ∷ [])

abbrev pub waiting_made : Table
waiting_made = table (codes "waiting")
    (optional (codes "place") Integer ∷ needed_column (codes "kind") Integer ∷ needed_column (codes "number") Integer ∷ optional (codes "due") Integer ∷ [])
    (Some 0) (0 ∷ []) ((2 ∷ 3 ∷ []) ∷ []) [] []

abbrev pub origin_made : Table
origin_made = table (codes "origin") (needed_column (codes "number") Integer ∷ []) None [] [] [] []

abbrev pub resent_made : Table
resent_made = table (codes "resent") (optional (codes "number") Integer ∷ []) (Some 0) (0 ∷ []) [] [] (refers 0 (codes "outbox") ∷ [])

-- ---- versions

-- how the tables of a later version came about: they were made so, or migrated from those of the first version
pub data Way : Type 0 where
  Fresh : Way
  Migrated : Way

-- the tables of a store, by their version; a further version is one more case
pub data Layout : Type 0 where
  VersionOne : Layout
  VersionTwo : (way : Way) → Layout
  VersionThree : (way : Way) → Layout

-- the number that stands in `meta`
abbrev pub number_of : Layout → ℕ
number_of VersionOne = 1
number_of (VersionTwo way) = 2
number_of (VersionThree way) = 3

-- the version that is made and read
abbrev pub current_number : ℕ
current_number = 3

-- ---- the trees of the tables; those between them are of the indexes that UNIQUE and PRIMARY KEY make

abbrev pub meta_tree : ℕ
meta_tree = 0

abbrev pub outbox_tree : ℕ
outbox_tree = 5

abbrev pub outbox_piece_tree : ℕ
outbox_piece_tree = 7

abbrev pub evidence_tree : ℕ
evidence_tree = 9

abbrev pub waiting_tree : ℕ
waiting_tree = 10

-- the first tables behind `meta`: the inbox of the first version, or that of a store that was made later
abbrev pub first_inbox_tree : ℕ
first_inbox_tree = 1

abbrev pub first_piece_tree : ℕ
first_piece_tree = 3

-- the inbox of a later version
abbrev pub inbox_tree : Way → ℕ
inbox_tree Fresh = 1
inbox_tree Migrated = 13

abbrev pub inbox_piece_tree : Way → ℕ
inbox_piece_tree Fresh = 3
inbox_piece_tree Migrated = 15

abbrev pub origin_tree : Way → ℕ
origin_tree Fresh = 13
origin_tree Migrated = 17

abbrev pub resent_tree : Way → ℕ
resent_tree Fresh = 14
resent_tree Migrated = 18

-- the inbox of each version
abbrev pub inbox_at : Layout → ℕ
inbox_at VersionOne = first_inbox_tree
inbox_at (VersionTwo way) = inbox_tree way
inbox_at (VersionThree way) = inbox_tree way

abbrev pub inbox_piece_at : Layout → ℕ
inbox_piece_at VersionOne = first_piece_tree
inbox_piece_at (VersionTwo way) = inbox_piece_tree way
inbox_piece_at (VersionThree way) = inbox_piece_tree way

-- the tables of the first version that a migration has emptied
abbrev pub emptied_tables : Way → List ℕ
emptied_tables Fresh = []
emptied_tables Migrated = first_inbox_tree ∷ first_piece_tree ∷ []

abbrev pub emptied_at : Layout → List ℕ
emptied_at VersionOne = []
emptied_at (VersionTwo way) = emptied_tables way
emptied_at (VersionThree way) = emptied_tables way

-- ---- the tables with their trees

abbrev pub meta_table : Table
meta_table = record meta_made { tree = meta_tree }

abbrev pub first_inbox_table : Table
first_inbox_table = record inbox_made { tree = first_inbox_tree }

abbrev pub first_piece_table : Table
first_piece_table = record inbox_piece_made { tree = first_piece_tree }

abbrev pub inbox_table : Way → Table
inbox_table way = record inbox2_made { tree = inbox_tree way }

abbrev pub inbox_piece_table : Way → Table
inbox_piece_table way = record inbox2_piece_made { tree = inbox_piece_tree way }

abbrev pub outbox_table : Table
outbox_table = record outbox_made { tree = outbox_tree }

abbrev pub outbox_piece_table : Table
outbox_piece_table = record outbox_piece_made { tree = outbox_piece_tree }

abbrev pub evidence_table : Table
evidence_table = record evidence_made { tree = evidence_tree }

abbrev pub waiting_table : Table
waiting_table = record waiting_made { tree = waiting_tree }

abbrev pub origin_table : Way → Table
origin_table way = record origin_made { tree = origin_tree way }

abbrev pub resent_table : Way → Table
resent_table way = record resent_made { tree = resent_tree way }

-- ---- the indexes

-- the index of a table's one key
abbrev pub key_index : List ℕ → ℕ → List ℕ → Index
key_index name tree columns = record { name = codes "sqlite_autoindex_" ++ name ++ codes "_" ++ decimal 1; tree = tree + 1; table = tree; columns = columns; order = record { digits = 0 }; is_unique = true }

abbrev pub waiting_due_made : Index
waiting_due_made = record { name = codes "waiting_due"; tree = 0; table = waiting_tree; columns = 2 ∷ 4 ∷ 3 ∷ []; order = record { digits = 0 }; is_unique = false }

abbrev pub first_inbox_indexes : List Index
first_inbox_indexes = key_index (codes "inbox") first_inbox_tree (2 ∷ 3 ∷ 4 ∷ []) ∷ key_index (codes "inbox_piece") first_piece_tree (1 ∷ 2 ∷ []) ∷ []

abbrev pub inbox_indexes : Way → List Index
inbox_indexes way = key_index (codes "inbox2") (inbox_tree way) (2 ∷ 3 ∷ 4 ∷ []) ∷ key_index (codes "inbox2_piece") (inbox_piece_tree way) (1 ∷ 2 ∷ []) ∷ []

abbrev pub outbox_indexes : List Index
outbox_indexes = key_index (codes "outbox") outbox_tree (4 ∷ []) ∷ key_index (codes "outbox_piece") outbox_piece_tree (1 ∷ 2 ∷ []) ∷ []

abbrev pub waiting_indexes : List Index
waiting_indexes = key_index (codes "waiting") waiting_tree (2 ∷ 3 ∷ []) ∷ record waiting_due_made { tree = 12 } ∷ []

-- ---- the schemas

-- the first tables behind `meta`
abbrev pub leading_table : Way → Table
leading_table Fresh = inbox_table Fresh
leading_table Migrated = first_inbox_table

abbrev pub leading_piece_table : Way → Table
leading_piece_table Fresh = inbox_piece_table Fresh
leading_piece_table Migrated = first_piece_table

abbrev pub leading_indexes : Way → List Index
leading_indexes Fresh = inbox_indexes Fresh
leading_indexes Migrated = first_inbox_indexes

-- what stands behind the tables that every version has
abbrev pub second_tables : Way → List Table
second_tables Fresh = origin_table Fresh ∷ []
second_tables Migrated = inbox_table Migrated ∷ inbox_piece_table Migrated ∷ origin_table Migrated ∷ []

abbrev pub third_tables : Way → List Table
third_tables Fresh = origin_table Fresh ∷ resent_table Fresh ∷ []
third_tables Migrated = inbox_table Migrated ∷ inbox_piece_table Migrated ∷ origin_table Migrated ∷ resent_table Migrated ∷ []

abbrev pub later_indexes : Way → List Index
later_indexes Fresh = []
later_indexes Migrated = inbox_indexes Migrated

-- all tables but `meta`, in the order in which they were made
abbrev pub behind_meta : Layout → List Table
behind_meta VersionOne = first_inbox_table ∷ first_piece_table ∷ outbox_table ∷ outbox_piece_table ∷ evidence_table ∷ waiting_table ∷ []
behind_meta (VersionTwo way) = leading_table way ∷ leading_piece_table way ∷ outbox_table ∷ outbox_piece_table ∷ evidence_table ∷ waiting_table ∷ second_tables way
behind_meta (VersionThree way) = leading_table way ∷ leading_piece_table way ∷ outbox_table ∷ outbox_piece_table ∷ evidence_table ∷ waiting_table ∷ third_tables way

abbrev pub indexes_of : Layout → List Index
indexes_of VersionOne = first_inbox_indexes ++ (outbox_indexes ++ waiting_indexes)
indexes_of (VersionTwo way) = leading_indexes way ++ (outbox_indexes ++ (waiting_indexes ++ later_indexes way))
indexes_of (VersionThree way) = leading_indexes way ++ (outbox_indexes ++ (waiting_indexes ++ later_indexes way))

-- the tables of a version: these and no others
abbrev pub schema_of : Layout → Schema
schema_of layout = record { tables = meta_table ∷ behind_meta layout; indexes = indexes_of layout; views = [] }

abbrev pub store_schema : Way → Schema
store_schema way = schema_of (VersionThree way)

-- ---- the schema of a store that is made, as it grows

abbrev pub no_schema : Schema
no_schema = record { tables = []; indexes = []; views = [] }

-- the counters and the inbox
abbrev pub inbox_schema : Schema
inbox_schema = record { tables = meta_table ∷ inbox_table Fresh ∷ inbox_piece_table Fresh ∷ []; indexes = inbox_indexes Fresh; views = [] }

-- and the outbox
abbrev pub outbox_schema : Schema
outbox_schema = record {
  tables = meta_table ∷ inbox_table Fresh ∷ inbox_piece_table Fresh ∷ outbox_table ∷ outbox_piece_table ∷ evidence_table ∷ [];
  indexes = inbox_indexes Fresh ++ outbox_indexes;
  views = [];
}

-- and what waits
abbrev pub waiting_schema : Schema
waiting_schema = record {
  tables = meta_table ∷ inbox_table Fresh ∷ inbox_piece_table Fresh ∷ outbox_table ∷ outbox_piece_table ∷ evidence_table ∷ waiting_table ∷ [];
  indexes = inbox_indexes Fresh ++ (outbox_indexes ++ waiting_indexes);
  views = [];
}
