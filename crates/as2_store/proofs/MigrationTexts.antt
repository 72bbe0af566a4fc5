-- What the texts of a migration mean.
use Rattle.std.proofs.Common.{◌≡◌, List, [], ◌∷◌, map, refl, pos}
use Rattle.sqlite.specs.declared.types.Value.TheVariants.{Null, Int}
use Rattle.sqlite.specs.Change.{created}
use Rattle.sqlite.specs.Collation.TheVariants.{Binary}
use Rattle.sqlite.specs.Command.TheVariants.{CreateTable, Delete, Insert, Update}
use Rattle.sqlite.specs.Listing.{understood}
use Rattle.sqlite.specs.Schema.{Schema}
use Rattle.sqlite.specs.Source.TheVariants.{Query}
use Rattle.sqlite.specs.Term.{Term, lit, col, op2}
use Rattle.sqlite.proofs.Callers.{IsPlain, command_of, statement_of}
use Rattle.sqlite_sql.specs.declared.ops.BinaryOp.TheVariants.{Compare}
use Rattle.sqlite_sql.specs.declared.ops.CompareOp.TheVariants.{Lt}
use Rattle.sqlite_tied.specs.Compute.{everything}
use Rattle.sql_tables.proofs.Changing.{update_program}
use Rattle.sql_tables.proofs.Deleting.{delete_program}
use Rattle.sql_tables.proofs.Queries.{by_number}
use Rattle.as2_store.specs.Migrating.{beside_schema}
use Rattle.as2_store.specs.Tables.{Way, Fresh, Migrated, VersionOne, VersionTwo, schema_of, store_schema, inbox2_made, origin_made, first_inbox_tree, first_piece_tree, meta_tree}
use Rattle.as2_store.proofs.Copying.{copy_of}
use Rattle.as2_store.proofs.Statements.{inbox2_text, inbox2_piece_text, origin_text, resent_text, copy_inbox_text, copy_below_text, clear_below_text, copy_piece_text, clear_piece_text, clear_inbox_text, version_text}

-- ---- tables beside those of the first version

abbrev pub first_schema : Schema
first_schema = schema_of VersionOne

abbrev pub beside_inbox : Schema
beside_inbox = created first_schema inbox2_made

abbrev pub beside_origin : Schema
beside_origin = created beside_schema origin_made

pub inbox_create : (command_of (understood first_schema inbox2_text) ≡ CreateTable)
    × (statement_of inbox2_text (understood first_schema inbox2_text) ≡ inbox2_text)
unfolding understood everything
inbox_create = (refl, refl)

pub inbox_plain : IsPlain (understood first_schema inbox2_text)
unfolding understood everything
inbox_plain = (refl, refl)

pub piece_create : (command_of (understood beside_inbox inbox2_piece_text) ≡ CreateTable)
    × (statement_of inbox2_piece_text (understood beside_inbox inbox2_piece_text) ≡ inbox2_piece_text)
unfolding understood everything
piece_create = (refl, refl)

pub piece_plain : IsPlain (understood beside_inbox inbox2_piece_text)
unfolding understood everything
piece_plain = (refl, refl)

pub origin_create : (command_of (understood beside_schema origin_text) ≡ CreateTable)
    × (statement_of origin_text (understood beside_schema origin_text) ≡ origin_text)
unfolding understood everything
origin_create = (refl, refl)

pub origin_plain : IsPlain (understood beside_schema origin_text)
unfolding understood everything
origin_plain = (refl, refl)

pub resent_create : (command_of (understood beside_origin resent_text) ≡ CreateTable)
    × (statement_of resent_text (understood beside_origin resent_text) ≡ resent_text)
unfolding understood everything
resent_create = (refl, refl)

pub resent_plain : IsPlain (understood beside_origin resent_text)
unfolding understood everything
resent_plain = (refl, refl)

-- ---- one table beside those of the second version

pub second_create : (way : Way) → (command_of (understood (schema_of (VersionTwo way)) resent_text) ≡ CreateTable)
    × (statement_of resent_text (understood (schema_of (VersionTwo way)) resent_text) ≡ resent_text)
unfolding understood everything
second_create Fresh = (refl, refl)
second_create Migrated = (refl, refl)

pub second_plain : (way : Way) → IsPlain (understood (schema_of (VersionTwo way)) resent_text)
unfolding understood everything
second_plain Fresh = (refl, refl)
second_plain Migrated = (refl, refl)

-- ---- the inbox moves

abbrev pub copy_inbox_terms : List Term
copy_inbox_terms =
    col 1 0 ∷ lit Null ∷ col 1 2 ∷ col 1 3 ∷ col 1 4 ∷ col 1 5 ∷ col 1 6 ∷ col 1 7 ∷ col 1 8 ∷ col 1 9 ∷ col 1 10 ∷ col 1 11 ∷ col 1 12 ∷ col 1 13
    ∷ col 1 14 ∷ col 1 15 ∷ col 1 16 ∷ col 1 17 ∷ []

pub copy_inbox_is : command_of (understood (store_schema Migrated) copy_inbox_text) ≡ Insert 7
    (Query (copy_of first_inbox_tree [] copy_inbox_terms by_number (map (λ _. Binary) copy_inbox_terms)))
unfolding understood everything
copy_inbox_is = refl

pub copy_inbox_plain : IsPlain (understood (store_schema Migrated) copy_inbox_text)
unfolding understood everything
copy_inbox_plain = (refl, refl)

abbrev pub copy_piece_terms : List Term
copy_piece_terms = lit Null ∷ col 1 1 ∷ col 1 2 ∷ col 1 3 ∷ []

pub copy_piece_is : command_of (understood (store_schema Migrated) copy_piece_text) ≡ Insert 8
    (Query (copy_of first_piece_tree [] copy_piece_terms [] (map (λ _. Binary) copy_piece_terms)))
unfolding understood everything
copy_piece_is = refl

pub copy_piece_plain : IsPlain (understood (store_schema Migrated) copy_piece_text)
unfolding understood everything
copy_piece_plain = (refl, refl)

-- of the receipts below a number
abbrev pub below_terms : List Term
below_terms = op2 (Compare Lt Binary) (col 1 1) (col 0 0) ∷ []

pub copy_below_is : command_of (understood (store_schema Migrated) copy_below_text) ≡ Insert 8
    (Query (copy_of first_piece_tree below_terms copy_piece_terms [] (map (λ _. Binary) copy_piece_terms)))
unfolding understood everything
copy_below_is = refl

pub copy_below_plain : IsPlain (understood (store_schema Migrated) copy_below_text)
unfolding understood everything
copy_below_plain = (refl, refl)

pub clear_below_is : command_of (understood (store_schema Migrated) clear_below_text) ≡ Delete 2 (delete_program first_piece_tree below_terms)
unfolding understood everything
clear_below_is = refl

pub clear_below_plain : IsPlain (understood (store_schema Migrated) clear_below_text)
unfolding understood everything
clear_below_plain = (refl, refl)

pub clear_piece_is : command_of (understood (store_schema Migrated) clear_piece_text) ≡ Delete 2 (delete_program first_piece_tree [])
unfolding understood everything
clear_piece_is = refl

pub clear_piece_plain : IsPlain (understood (store_schema Migrated) clear_piece_text)
unfolding understood everything
clear_piece_plain = (refl, refl)

pub clear_inbox_is : command_of (understood (store_schema Migrated) clear_inbox_text) ≡ Delete 1 (delete_program first_inbox_tree [])
unfolding understood everything
clear_inbox_is = refl

pub clear_inbox_plain : IsPlain (understood (store_schema Migrated) clear_inbox_text)
unfolding understood everything
clear_inbox_plain = (refl, refl)

-- ---- the version

abbrev pub version_project : List Term
version_project = col 1 0 ∷ col 1 1 ∷ lit (Int (pos 3)) ∷ col 1 3 ∷ col 1 4 ∷ []

pub version_is : (way : Way) → command_of (understood (store_schema way) version_text) ≡ Update 0 (update_program meta_tree [] version_project)
unfolding understood everything
version_is Fresh = refl
version_is Migrated = refl

pub version_plain : (way : Way) → IsPlain (understood (store_schema way) version_text)
unfolding understood everything
version_plain Fresh = (refl, refl)
version_plain Migrated = (refl, refl)
