-- What the texts of the statements mean.
use Rattle.std.proofs.Common.{◌≡◌, ℕ, List, [], ◌∷◌, codes, slice_get, Some, refl, pos, negsuc, false}
use Rattle.sqlite.specs.declared.types.Value.TheVariants.{Null, Int, Text}
use Rattle.sqlite.specs.Collation.TheVariants.{Binary}
use Rattle.sqlite.specs.Term.{Term, lit, col, op2}
use Rattle.sqlite.specs.Source.TheVariants.{Values}
use Rattle.sqlite.specs.Command.{Command}
use Rattle.sqlite.specs.Command.TheVariants.{Insert, Select, Update, Delete}
use Rattle.sqlite.specs.Schema.{Schema}
use Rattle.sqlite.specs.Table.{Table}
use Rattle.sqlite_schema.specs.declared.schema.Index.{Index}
use Rattle.sqlite.specs.Listing.{understood, reads_listing}
use Rattle.sqlite.proofs.Callers.{IsPlain, command_of}
use Rattle.sqlite_sql.specs.declared.ops.BinaryOp.TheVariants.{Compare}
use Rattle.sqlite_sql.specs.declared.ops.CompareOp.TheVariants.{Eq, Ge, Le, Lt}
use Rattle.sqlite_tied.specs.Compute.{everything}
use Rattle.sql_tables.specs.Changes.{over_table}
use Rattle.sql_tables.proofs.Queries.{by_number, by_column}
use Rattle.sql_tables.proofs.Changing.{update_program}
use Rattle.sql_tables.proofs.Deleting.{delete_program}
use Rattle.as2_store.specs.declared.contents.Mailbox.TheVariants.{Inbox, Outbox}
use Rattle.as2_store.specs.Tables.{Way, Fresh, Migrated, store_schema, meta_table, meta_tree, inbox_table, inbox_piece_table, origin_table, resent_table, inbox_tree, inbox_piece_tree, outbox_tree, outbox_piece_tree, evidence_tree, waiting_tree, origin_tree, resent_tree}
use Rattle.as2_store.proofs.Statements.{meta_put_text, meta_read_text, receipt_text, document_text, in_put_text, piece_put_text, in_by_key_text, in_by_number_text, in_all_text, in_pieces_text, in_set_text, out_put_text, out_by_id_text, out_by_number_text, out_by_details_text, out_pieces_text, evidence_by_number_text, settled_text, receipt_stage_text, detail_text, evidence_put_text, out_set_text, out_settle_text, out_pass_text, waiting_put_text, waiting_read_text, waiting_take_text, waiting_take_due_text, any_due_text, all_due_text, least_due_text, origin_put_text, origin_read_text, resent_put_text, resent_take_text, resent_read_text, tried_text}

-- ---- where the tables stand

abbrev pub inbox_place : Way → ℕ
inbox_place Fresh = 1
inbox_place Migrated = 7

abbrev pub inbox_piece_place : Way → ℕ
inbox_piece_place Fresh = 2
inbox_piece_place Migrated = 8

abbrev pub origin_place : Way → ℕ
origin_place Fresh = 7
origin_place Migrated = 9

abbrev pub resent_place : Way → ℕ
resent_place Fresh = 8
resent_place Migrated = 10

pub inbox_there : (way : Way) → slice_get (store_schema way).tables (inbox_place way) ≡ Some (inbox_table way)
inbox_there Fresh = refl
inbox_there Migrated = refl

pub inbox_piece_there : (way : Way) → slice_get (store_schema way).tables (inbox_piece_place way) ≡ Some (inbox_piece_table way)
inbox_piece_there Fresh = refl
inbox_piece_there Migrated = refl

pub origin_there : (way : Way) → slice_get (store_schema way).tables (origin_place way) ≡ Some (origin_table way)
origin_there Fresh = refl
origin_there Migrated = refl

pub resent_there : (way : Way) → slice_get (store_schema way).tables (resent_place way) ≡ Some (resent_table way)
resent_there Fresh = refl
resent_there Migrated = refl

-- ---- the counters

abbrev pub meta_put_terms : List Term
meta_put_terms = lit Null ∷ lit (Text (codes "as2-station")) ∷ lit (Int (pos 3)) ∷ col 0 0 ∷ col 0 0 ∷ []

pub meta_put_is : (way : Way) → command_of (understood (store_schema way) meta_put_text) ≡ Insert 0 (Values meta_put_terms 5)
unfolding understood everything
meta_put_is Fresh = refl
meta_put_is Migrated = refl

pub meta_put_plain : (way : Way) → IsPlain (understood (store_schema way) meta_put_text)
unfolding understood everything
meta_put_plain Fresh = (refl, refl)
meta_put_plain Migrated = (refl, refl)

abbrev pub meta_columns : List Term
meta_columns = col 1 1 ∷ col 1 2 ∷ col 1 3 ∷ col 1 4 ∷ []

abbrev pub meta_command : Command
meta_command = Select (record { lets = []; body = over_table meta_tree [] meta_columns [] (lit (Int (negsuc 0))) })
    (codes "kind" ∷ codes "version" ∷ codes "next_receipt" ∷ codes "next_document" ∷ [])

-- where the table stands before all others
abbrev pub with_meta_first : List Table → List Index → Schema
with_meta_first tables indexes = record { tables = meta_table ∷ tables; indexes = indexes; views = [] }

pub meta_read_is : (tables : List Table) (indexes : List Index) → command_of (understood (with_meta_first tables indexes) meta_read_text) ≡ meta_command
unfolding understood everything
meta_read_is tables indexes = refl

pub meta_read_plain : (tables : List Table) (indexes : List Index) → IsPlain (understood (with_meta_first tables indexes) meta_read_text)
unfolding understood everything
meta_read_plain tables indexes = (refl, refl)

pub meta_read_unlisted : (tables : List Table) (indexes : List Index) → reads_listing (with_meta_first tables indexes) meta_read_text ≡ false
unfolding understood everything
meta_read_unlisted tables indexes = refl

abbrev pub receipt_project : List Term
receipt_project = col 1 0 ∷ col 1 1 ∷ col 1 2 ∷ col 0 1 ∷ col 1 4 ∷ []

abbrev pub receipt_terms : List Term
receipt_terms = op2 (Compare Eq Binary) (col 1 3) (col 0 0) ∷ []

pub receipt_is : (way : Way) → command_of (understood (store_schema way) receipt_text) ≡ Update 0 (update_program meta_tree receipt_terms receipt_project)
unfolding understood everything
receipt_is Fresh = refl
receipt_is Migrated = refl

pub receipt_plain : (way : Way) → IsPlain (understood (store_schema way) receipt_text)
unfolding understood everything
receipt_plain Fresh = (refl, refl)
receipt_plain Migrated = (refl, refl)

abbrev pub document_project : List Term
document_project = col 1 0 ∷ col 1 1 ∷ col 1 2 ∷ col 1 3 ∷ col 0 1 ∷ []

abbrev pub document_terms : List Term
document_terms = op2 (Compare Eq Binary) (col 1 4) (col 0 0) ∷ []

pub document_is : (way : Way) → command_of (understood (store_schema way) document_text) ≡ Update 0 (update_program meta_tree document_terms document_project)
unfolding understood everything
document_is Fresh = refl
document_is Migrated = refl

pub document_plain : (way : Way) → IsPlain (understood (store_schema way) document_text)
unfolding understood everything
document_plain Fresh = (refl, refl)
document_plain Migrated = (refl, refl)

-- ---- the inbox

abbrev pub in_put_terms : List Term
in_put_terms =
    col 0 0 ∷ lit Null ∷ col 0 1 ∷ col 0 2 ∷ col 0 3 ∷ col 0 4 ∷ col 0 5 ∷ col 0 6 ∷ col 0 7 ∷ col 0 8 ∷ col 0 9 ∷ col 0 10 ∷ col 0 11 ∷ col 0 12
    ∷ col 0 13 ∷ col 0 14 ∷ col 0 15 ∷ col 0 16 ∷ []

pub in_put_is : (way : Way) → command_of (understood (store_schema way) in_put_text) ≡ Insert (inbox_place way) (Values in_put_terms 18)
unfolding understood everything
in_put_is Fresh = refl
in_put_is Migrated = refl

pub in_put_plain : (way : Way) → IsPlain (understood (store_schema way) in_put_text)
unfolding understood everything
in_put_plain Fresh = (refl, refl)
in_put_plain Migrated = (refl, refl)

abbrev pub piece_put_terms : List Term
piece_put_terms = lit Null ∷ col 0 0 ∷ col 0 1 ∷ col 0 2 ∷ []

pub in_piece_put_is : (way : Way)
    → command_of (understood (store_schema way) (piece_put_text Inbox)) ≡ Insert (inbox_piece_place way) (Values piece_put_terms 4)
unfolding understood everything
in_piece_put_is Fresh = refl
in_piece_put_is Migrated = refl

pub in_piece_put_plain : (way : Way) → IsPlain (understood (store_schema way) (piece_put_text Inbox))
unfolding understood everything
in_piece_put_plain Fresh = (refl, refl)
in_piece_put_plain Migrated = (refl, refl)

pub out_piece_put_is : (way : Way) → command_of (understood (store_schema way) (piece_put_text Outbox)) ≡ Insert 4 (Values piece_put_terms 4)
unfolding understood everything
out_piece_put_is Fresh = refl
out_piece_put_is Migrated = refl

pub out_piece_put_plain : (way : Way) → IsPlain (understood (store_schema way) (piece_put_text Outbox))
unfolding understood everything
out_piece_put_plain Fresh = (refl, refl)
out_piece_put_plain Migrated = (refl, refl)

abbrev pub in_column_terms : List Term
in_column_terms =
    col 1 0 ∷ col 1 2 ∷ col 1 3 ∷ col 1 4 ∷ col 1 5 ∷ col 1 6 ∷ col 1 7 ∷ col 1 8 ∷ col 1 9 ∷ col 1 10 ∷ col 1 11 ∷ col 1 12 ∷ col 1 13 ∷ col 1 14
    ∷ col 1 15 ∷ col 1 16 ∷ col 1 17 ∷ []

abbrev pub in_names : List (List ℕ)
in_names =
    codes "number" ∷ codes "sender" ∷ codes "receiver" ∷ codes "identifier_value" ∷ codes "identifier" ∷ codes "content_type" ∷ codes "length" ∷ codes "moment" ∷ codes "outcome"
    ∷ codes "how" ∷ codes "url" ∷ codes "digest" ∷ codes "mic" ∷ codes "mdn" ∷ codes "tries" ∷ codes "attempt" ∷ codes "due" ∷ []

abbrev pub key_terms : List Term
key_terms = op2 (Compare Eq Binary) (col 1 2) (col 0 0) ∷ op2 (Compare Eq Binary) (col 1 3) (col 0 1) ∷ op2 (Compare Eq Binary) (col 1 4) (col 0 2) ∷ []

pub in_by_key_is : (way : Way)
    → command_of (understood (store_schema way) in_by_key_text) ≡ Select
    (record { lets = []; body = over_table (inbox_tree way) key_terms in_column_terms by_number (lit (Int (negsuc 0))) }) in_names
unfolding understood everything
in_by_key_is Fresh = refl
in_by_key_is Migrated = refl

pub in_by_key_plain : (way : Way) → IsPlain (understood (store_schema way) in_by_key_text)
unfolding understood everything
in_by_key_plain Fresh = (refl, refl)
in_by_key_plain Migrated = (refl, refl)

pub in_by_key_unlisted : (way : Way) → reads_listing (store_schema way) in_by_key_text ≡ false
unfolding understood everything
in_by_key_unlisted Fresh = refl
in_by_key_unlisted Migrated = refl

abbrev pub number_terms : List Term
number_terms = op2 (Compare Eq Binary) (col 1 0) (col 0 0) ∷ []

pub in_by_number_is : (way : Way)
    → command_of (understood (store_schema way) in_by_number_text) ≡ Select
    (record { lets = []; body = over_table (inbox_tree way) number_terms in_column_terms by_number (lit (Int (negsuc 0))) }) in_names
unfolding understood everything
in_by_number_is Fresh = refl
in_by_number_is Migrated = refl

pub in_by_number_plain : (way : Way) → IsPlain (understood (store_schema way) in_by_number_text)
unfolding understood everything
in_by_number_plain Fresh = (refl, refl)
in_by_number_plain Migrated = (refl, refl)

pub in_by_number_unlisted : (way : Way) → reads_listing (store_schema way) in_by_number_text ≡ false
unfolding understood everything
in_by_number_unlisted Fresh = refl
in_by_number_unlisted Migrated = refl

pub in_all_is : (way : Way)
    → command_of (understood (store_schema way) in_all_text) ≡ Select
    (record { lets = []; body = over_table (inbox_tree way) [] in_column_terms by_number (lit (Int (negsuc 0))) }) in_names
unfolding understood everything
in_all_is Fresh = refl
in_all_is Migrated = refl

pub in_all_plain : (way : Way) → IsPlain (understood (store_schema way) in_all_text)
unfolding understood everything
in_all_plain Fresh = (refl, refl)
in_all_plain Migrated = (refl, refl)

pub in_all_unlisted : (way : Way) → reads_listing (store_schema way) in_all_text ≡ false
unfolding understood everything
in_all_unlisted Fresh = refl
in_all_unlisted Migrated = refl

abbrev pub piece_terms : List Term
piece_terms = op2 (Compare Eq Binary) (col 1 1) (col 0 0) ∷ []

abbrev pub piece_column_terms : List Term
piece_column_terms = col 1 1 ∷ col 1 2 ∷ col 1 3 ∷ []

pub in_pieces_is : (way : Way) → command_of (understood (store_schema way) in_pieces_text)
    ≡ Select (record { lets = []; body = over_table (inbox_piece_tree way) piece_terms piece_column_terms (by_column 2) (lit (Int (negsuc 0))) })
    (codes "number" ∷ codes "position" ∷ codes "bytes" ∷ [])
unfolding understood everything
in_pieces_is Fresh = refl
in_pieces_is Migrated = refl

pub in_pieces_plain : (way : Way) → IsPlain (understood (store_schema way) in_pieces_text)
unfolding understood everything
in_pieces_plain Fresh = (refl, refl)
in_pieces_plain Migrated = (refl, refl)

pub in_pieces_unlisted : (way : Way) → reads_listing (store_schema way) in_pieces_text ≡ false
unfolding understood everything
in_pieces_unlisted Fresh = refl
in_pieces_unlisted Migrated = refl

abbrev pub owed_project : List Term
owed_project =
    col 1 0 ∷ lit Null ∷ col 1 2 ∷ col 1 3 ∷ col 1 4 ∷ col 1 5 ∷ col 1 6 ∷ col 1 7 ∷ col 1 8 ∷ col 1 9 ∷ col 1 10 ∷ col 1 11 ∷ col 1 12 ∷ col 1 13
    ∷ col 0 1 ∷ col 0 2 ∷ col 0 3 ∷ col 0 4 ∷ []

pub in_set_is : (way : Way)
    → command_of (understood (store_schema way) in_set_text) ≡ Update (inbox_place way) (update_program (inbox_tree way) number_terms owed_project)
unfolding understood everything
in_set_is Fresh = refl
in_set_is Migrated = refl

pub in_set_plain : (way : Way) → IsPlain (understood (store_schema way) in_set_text)
unfolding understood everything
in_set_plain Fresh = (refl, refl)
in_set_plain Migrated = (refl, refl)

-- ---- the outbox

abbrev pub out_put_terms : List Term
out_put_terms = col 0 0 ∷ lit Null ∷ col 0 1 ∷ col 0 2 ∷ col 0 3 ∷ col 0 4 ∷ col 0 5 ∷ col 0 6 ∷ col 0 7 ∷ col 0 8 ∷ col 0 9 ∷ col 0 10 ∷ []

pub out_put_is : (way : Way) → command_of (understood (store_schema way) out_put_text) ≡ Insert 3 (Values out_put_terms 12)
unfolding understood everything
out_put_is Fresh = refl
out_put_is Migrated = refl

pub out_put_plain : (way : Way) → IsPlain (understood (store_schema way) out_put_text)
unfolding understood everything
out_put_plain Fresh = (refl, refl)
out_put_plain Migrated = (refl, refl)

abbrev pub out_column_terms : List Term
out_column_terms = col 1 0 ∷ col 1 2 ∷ col 1 3 ∷ col 1 4 ∷ col 1 5 ∷ col 1 6 ∷ col 1 7 ∷ col 1 8 ∷ col 1 9 ∷ col 1 10 ∷ col 1 11 ∷ []

abbrev pub out_names : List (List ℕ)
out_names =
    codes "number" ∷ codes "organization" ∷ codes "partner" ∷ codes "identifier_value" ∷ codes "identifier" ∷ codes "length" ∷ codes "moment" ∷ codes "tries" ∷ codes "attempt" ∷ codes "due" ∷ codes "detail" ∷ []

abbrev pub id_terms : List Term
id_terms = op2 (Compare Eq Binary) (col 1 4) (col 0 0) ∷ []

pub out_by_id_is : (way : Way)
    → command_of (understood (store_schema way) out_by_id_text) ≡ Select
    (record { lets = []; body = over_table outbox_tree id_terms out_column_terms by_number (lit (Int (negsuc 0))) }) out_names
unfolding understood everything
out_by_id_is Fresh = refl
out_by_id_is Migrated = refl

pub out_by_id_plain : (way : Way) → IsPlain (understood (store_schema way) out_by_id_text)
unfolding understood everything
out_by_id_plain Fresh = (refl, refl)
out_by_id_plain Migrated = (refl, refl)

pub out_by_id_unlisted : (way : Way) → reads_listing (store_schema way) out_by_id_text ≡ false
unfolding understood everything
out_by_id_unlisted Fresh = refl
out_by_id_unlisted Migrated = refl

abbrev pub details_terms : List Term
details_terms = op2 (Compare Ge Binary) (col 1 11) (col 0 0) ∷ op2 (Compare Le Binary) (col 1 11) (col 0 1) ∷ []

pub out_by_details_is : (way : Way)
    → command_of (understood (store_schema way) out_by_details_text) ≡ Select
    (record { lets = []; body = over_table outbox_tree details_terms out_column_terms by_number (lit (Int (negsuc 0))) }) out_names
unfolding understood everything
out_by_details_is Fresh = refl
out_by_details_is Migrated = refl

pub out_by_details_plain : (way : Way) → IsPlain (understood (store_schema way) out_by_details_text)
unfolding understood everything
out_by_details_plain Fresh = (refl, refl)
out_by_details_plain Migrated = (refl, refl)

pub out_by_details_unlisted : (way : Way) → reads_listing (store_schema way) out_by_details_text ≡ false
unfolding understood everything
out_by_details_unlisted Fresh = refl
out_by_details_unlisted Migrated = refl

pub out_by_number_is : (way : Way)
    → command_of (understood (store_schema way) out_by_number_text) ≡ Select
    (record { lets = []; body = over_table outbox_tree number_terms out_column_terms by_number (lit (Int (negsuc 0))) }) out_names
unfolding understood everything
out_by_number_is Fresh = refl
out_by_number_is Migrated = refl

pub out_by_number_plain : (way : Way) → IsPlain (understood (store_schema way) out_by_number_text)
unfolding understood everything
out_by_number_plain Fresh = (refl, refl)
out_by_number_plain Migrated = (refl, refl)

pub out_by_number_unlisted : (way : Way) → reads_listing (store_schema way) out_by_number_text ≡ false
unfolding understood everything
out_by_number_unlisted Fresh = refl
out_by_number_unlisted Migrated = refl

pub out_pieces_is : (way : Way) → command_of (understood (store_schema way) out_pieces_text)
    ≡ Select (record { lets = []; body = over_table outbox_piece_tree piece_terms piece_column_terms (by_column 2) (lit (Int (negsuc 0))) })
    (codes "number" ∷ codes "position" ∷ codes "bytes" ∷ [])
unfolding understood everything
out_pieces_is Fresh = refl
out_pieces_is Migrated = refl

pub out_pieces_plain : (way : Way) → IsPlain (understood (store_schema way) out_pieces_text)
unfolding understood everything
out_pieces_plain Fresh = (refl, refl)
out_pieces_plain Migrated = (refl, refl)

pub out_pieces_unlisted : (way : Way) → reads_listing (store_schema way) out_pieces_text ≡ false
unfolding understood everything
out_pieces_unlisted Fresh = refl
out_pieces_unlisted Migrated = refl

abbrev pub evidence_column_terms : List Term
evidence_column_terms = col 1 0 ∷ col 1 2 ∷ col 1 3 ∷ col 1 4 ∷ []

abbrev pub evidence_names : List (List ℕ)
evidence_names = codes "number" ∷ codes "moment" ∷ codes "content_type" ∷ codes "body" ∷ []

pub evidence_by_number_is : (way : Way) → command_of (understood (store_schema way) evidence_by_number_text)
    ≡ Select (record { lets = []; body = over_table evidence_tree number_terms evidence_column_terms by_number (lit (Int (negsuc 0))) }) evidence_names
unfolding understood everything
evidence_by_number_is Fresh = refl
evidence_by_number_is Migrated = refl

pub evidence_by_number_plain : (way : Way) → IsPlain (understood (store_schema way) evidence_by_number_text)
unfolding understood everything
evidence_by_number_plain Fresh = (refl, refl)
evidence_by_number_plain Migrated = (refl, refl)

pub evidence_by_number_unlisted : (way : Way) → reads_listing (store_schema way) evidence_by_number_text ≡ false
unfolding understood everything
evidence_by_number_unlisted Fresh = refl
evidence_by_number_unlisted Migrated = refl

abbrev pub settled_column_terms : List Term
settled_column_terms = col 1 0 ∷ []

pub settled_is : (way : Way)
    → command_of (understood (store_schema way) settled_text) ≡ Select
    (record { lets = []; body = over_table evidence_tree [] settled_column_terms by_number (lit (Int (negsuc 0))) }) (codes "number" ∷ [])
unfolding understood everything
settled_is Fresh = refl
settled_is Migrated = refl

pub settled_plain : (way : Way) → IsPlain (understood (store_schema way) settled_text)
unfolding understood everything
settled_plain Fresh = (refl, refl)
settled_plain Migrated = (refl, refl)

pub settled_unlisted : (way : Way) → reads_listing (store_schema way) settled_text ≡ false
unfolding understood everything
settled_unlisted Fresh = refl
settled_unlisted Migrated = refl

abbrev pub detail_column_terms : List Term
detail_column_terms = col 1 11 ∷ []

pub detail_is : (way : Way)
    → command_of (understood (store_schema way) detail_text) ≡ Select
    (record { lets = []; body = over_table outbox_tree [] detail_column_terms by_number (lit (Int (negsuc 0))) }) (codes "detail" ∷ [])
unfolding understood everything
detail_is Fresh = refl
detail_is Migrated = refl

pub detail_plain : (way : Way) → IsPlain (understood (store_schema way) detail_text)
unfolding understood everything
detail_plain Fresh = (refl, refl)
detail_plain Migrated = (refl, refl)

pub detail_unlisted : (way : Way) → reads_listing (store_schema way) detail_text ≡ false
unfolding understood everything
detail_unlisted Fresh = refl
detail_unlisted Migrated = refl

abbrev pub receipt_stage_column_terms : List Term
receipt_stage_column_terms = col 1 14 ∷ []

pub receipt_stage_is : (way : Way)
    → command_of (understood (store_schema way) receipt_stage_text) ≡ Select
    (record { lets = []; body = over_table (inbox_tree way) [] receipt_stage_column_terms by_number (lit (Int (negsuc 0))) }) (codes "mdn" ∷ [])
unfolding understood everything
receipt_stage_is Fresh = refl
receipt_stage_is Migrated = refl

pub receipt_stage_plain : (way : Way) → IsPlain (understood (store_schema way) receipt_stage_text)
unfolding understood everything
receipt_stage_plain Fresh = (refl, refl)
receipt_stage_plain Migrated = (refl, refl)

pub receipt_stage_unlisted : (way : Way) → reads_listing (store_schema way) receipt_stage_text ≡ false
unfolding understood everything
receipt_stage_unlisted Fresh = refl
receipt_stage_unlisted Migrated = refl

abbrev pub evidence_put_terms : List Term
evidence_put_terms = col 0 0 ∷ lit Null ∷ col 0 1 ∷ col 0 2 ∷ col 0 3 ∷ []

pub evidence_put_is : (way : Way) → command_of (understood (store_schema way) evidence_put_text) ≡ Insert 5 (Values evidence_put_terms 5)
unfolding understood everything
evidence_put_is Fresh = refl
evidence_put_is Migrated = refl

pub evidence_put_plain : (way : Way) → IsPlain (understood (store_schema way) evidence_put_text)
unfolding understood everything
evidence_put_plain Fresh = (refl, refl)
evidence_put_plain Migrated = (refl, refl)

abbrev pub settle_project : List Term
settle_project =
    col 1 0 ∷ lit Null ∷ col 1 2 ∷ col 1 3 ∷ col 1 4 ∷ col 1 5 ∷ col 1 6 ∷ col 1 7 ∷ col 1 8 ∷ lit (Int (pos 1)) ∷ lit Null ∷ col 0 1 ∷ []

abbrev pub set_project : List Term
set_project =
    col 1 0 ∷ lit Null ∷ col 1 2 ∷ col 1 3 ∷ col 1 4 ∷ col 1 5 ∷ col 1 6 ∷ col 1 7 ∷ col 0 1 ∷ col 0 2 ∷ col 0 3 ∷ col 0 4 ∷ []

pub out_set_is : (way : Way) → command_of (understood (store_schema way) out_set_text) ≡ Update 3 (update_program outbox_tree number_terms set_project)
unfolding understood everything
out_set_is Fresh = refl
out_set_is Migrated = refl

pub out_set_plain : (way : Way) → IsPlain (understood (store_schema way) out_set_text)
unfolding understood everything
out_set_plain Fresh = (refl, refl)
out_set_plain Migrated = (refl, refl)

abbrev pub pass_project : List Term
pass_project =
    col 1 0 ∷ lit Null ∷ col 1 2 ∷ col 1 3 ∷ col 1 4 ∷ col 1 5 ∷ col 1 6 ∷ col 1 7 ∷ col 1 8 ∷ col 1 9 ∷ lit Null ∷ col 0 1 ∷ []

pub out_pass_is : (way : Way) → command_of (understood (store_schema way) out_pass_text) ≡ Update 3 (update_program outbox_tree number_terms pass_project)
unfolding understood everything
out_pass_is Fresh = refl
out_pass_is Migrated = refl

pub out_pass_plain : (way : Way) → IsPlain (understood (store_schema way) out_pass_text)
unfolding understood everything
out_pass_plain Fresh = (refl, refl)
out_pass_plain Migrated = (refl, refl)

pub out_settle_is : (way : Way) → command_of (understood (store_schema way) out_settle_text) ≡ Update 3 (update_program outbox_tree number_terms settle_project)
unfolding understood everything
out_settle_is Fresh = refl
out_settle_is Migrated = refl

pub out_settle_plain : (way : Way) → IsPlain (understood (store_schema way) out_settle_text)
unfolding understood everything
out_settle_plain Fresh = (refl, refl)
out_settle_plain Migrated = (refl, refl)

-- ---- what waits

abbrev pub waiting_put_terms : List Term
waiting_put_terms = col 0 0 ∷ lit Null ∷ col 0 1 ∷ col 0 2 ∷ col 0 3 ∷ []

pub waiting_put_is : (way : Way) → command_of (understood (store_schema way) waiting_put_text) ≡ Insert 6 (Values waiting_put_terms 5)
unfolding understood everything
waiting_put_is Fresh = refl
waiting_put_is Migrated = refl

pub waiting_put_plain : (way : Way) → IsPlain (understood (store_schema way) waiting_put_text)
unfolding understood everything
waiting_put_plain Fresh = (refl, refl)
waiting_put_plain Migrated = (refl, refl)

abbrev pub due_columns : List Term
due_columns = col 1 3 ∷ []

abbrev pub any_due_terms : List Term
any_due_terms = op2 (Compare Eq Binary) (col 1 2) (col 0 0) ∷ op2 (Compare Le Binary) (col 1 4) (col 0 1) ∷ []

pub any_due_is : (way : Way)
    → command_of (understood (store_schema way) any_due_text) ≡ Select
    (record { lets = []; body = over_table waiting_tree any_due_terms due_columns [] (lit (Int (pos 1))) }) (codes "number" ∷ [])
unfolding understood everything
any_due_is Fresh = refl
any_due_is Migrated = refl

pub any_due_plain : (way : Way) → IsPlain (understood (store_schema way) any_due_text)
unfolding understood everything
any_due_plain Fresh = (refl, refl)
any_due_plain Migrated = (refl, refl)

pub any_due_unlisted : (way : Way) → reads_listing (store_schema way) any_due_text ≡ false
unfolding understood everything
any_due_unlisted Fresh = refl
any_due_unlisted Migrated = refl

pub all_due_is : (way : Way)
    → command_of (understood (store_schema way) all_due_text) ≡ Select
    (record { lets = []; body = over_table waiting_tree any_due_terms due_columns by_number (lit (Int (negsuc 0))) }) (codes "number" ∷ [])
unfolding understood everything
all_due_is Fresh = refl
all_due_is Migrated = refl

pub all_due_plain : (way : Way) → IsPlain (understood (store_schema way) all_due_text)
unfolding understood everything
all_due_plain Fresh = (refl, refl)
all_due_plain Migrated = (refl, refl)

pub all_due_unlisted : (way : Way) → reads_listing (store_schema way) all_due_text ≡ false
unfolding understood everything
all_due_unlisted Fresh = refl
all_due_unlisted Migrated = refl

abbrev pub least_due_terms : List Term
least_due_terms = op2 (Compare Ge Binary) (col 1 0) (col 0 0) ∷ op2 (Compare Lt Binary) (col 1 0) (col 0 1) ∷ op2 (Compare Le Binary) (col 1 4) (col 0 2) ∷ []

pub least_due_is : (way : Way)
    → command_of (understood (store_schema way) least_due_text) ≡ Select
    (record { lets = []; body = over_table waiting_tree least_due_terms due_columns by_number (lit (Int (pos 1))) }) (codes "number" ∷ [])
unfolding understood everything
least_due_is Fresh = refl
least_due_is Migrated = refl

pub least_due_plain : (way : Way) → IsPlain (understood (store_schema way) least_due_text)
unfolding understood everything
least_due_plain Fresh = (refl, refl)
least_due_plain Migrated = (refl, refl)

pub least_due_unlisted : (way : Way) → reads_listing (store_schema way) least_due_text ≡ false
unfolding understood everything
least_due_unlisted Fresh = refl
least_due_unlisted Migrated = refl

abbrev pub waiting_columns : List Term
waiting_columns = col 1 0 ∷ col 1 2 ∷ col 1 3 ∷ col 1 4 ∷ []

abbrev pub waiting_names : List (List ℕ)
waiting_names = codes "place" ∷ codes "kind" ∷ codes "number" ∷ codes "due" ∷ []

pub waiting_read_is : (way : Way)
    → command_of (understood (store_schema way) waiting_read_text) ≡ Select
    (record { lets = []; body = over_table waiting_tree [] waiting_columns by_number (lit (Int (negsuc 0))) }) waiting_names
unfolding understood everything
waiting_read_is Fresh = refl
waiting_read_is Migrated = refl

pub waiting_read_plain : (way : Way) → IsPlain (understood (store_schema way) waiting_read_text)
unfolding understood everything
waiting_read_plain Fresh = (refl, refl)
waiting_read_plain Migrated = (refl, refl)

pub waiting_read_unlisted : (way : Way) → reads_listing (store_schema way) waiting_read_text ≡ false
unfolding understood everything
waiting_read_unlisted Fresh = refl
waiting_read_unlisted Migrated = refl

pub waiting_take_is : (way : Way) → command_of (understood (store_schema way) waiting_take_text) ≡ Delete 6 (delete_program waiting_tree number_terms)
unfolding understood everything
waiting_take_is Fresh = refl
waiting_take_is Migrated = refl

pub waiting_take_plain : (way : Way) → IsPlain (understood (store_schema way) waiting_take_text)
unfolding understood everything
waiting_take_plain Fresh = (refl, refl)
waiting_take_plain Migrated = (refl, refl)

pub waiting_take_due_is : (way : Way) → command_of (understood (store_schema way) waiting_take_due_text) ≡ Delete 6 (delete_program waiting_tree any_due_terms)
unfolding understood everything
waiting_take_due_is Fresh = refl
waiting_take_due_is Migrated = refl

pub waiting_take_due_plain : (way : Way) → IsPlain (understood (store_schema way) waiting_take_due_text)
unfolding understood everything
waiting_take_due_plain Fresh = (refl, refl)
waiting_take_due_plain Migrated = (refl, refl)

-- ---- the origin

abbrev pub origin_put_terms : List Term
origin_put_terms = lit Null ∷ col 0 0 ∷ []

pub origin_put_is : (way : Way) → command_of (understood (store_schema way) origin_put_text) ≡ Insert (origin_place way) (Values origin_put_terms 2)
unfolding understood everything
origin_put_is Fresh = refl
origin_put_is Migrated = refl

pub origin_put_plain : (way : Way) → IsPlain (understood (store_schema way) origin_put_text)
unfolding understood everything
origin_put_plain Fresh = (refl, refl)
origin_put_plain Migrated = (refl, refl)

abbrev pub origin_column_terms : List Term
origin_column_terms = col 1 1 ∷ []

abbrev pub origin_command : Way → Command
origin_command way = Select (record { lets = []; body = over_table (origin_tree way) [] origin_column_terms [] (lit (Int (negsuc 0))) }) (codes "number" ∷ [])

pub origin_read_is : (way : Way) → command_of (understood (store_schema way) origin_read_text) ≡ origin_command way
unfolding understood everything
origin_read_is Fresh = refl
origin_read_is Migrated = refl

pub origin_read_plain : (way : Way) → IsPlain (understood (store_schema way) origin_read_text)
unfolding understood everything
origin_read_plain Fresh = (refl, refl)
origin_read_plain Migrated = (refl, refl)

pub origin_read_unlisted : (way : Way) → reads_listing (store_schema way) origin_read_text ≡ false
unfolding understood everything
origin_read_unlisted Fresh = refl
origin_read_unlisted Migrated = refl

-- ---- what was sent anew

abbrev pub resent_put_terms : List Term
resent_put_terms = col 0 0 ∷ lit Null ∷ []

pub resent_put_is : (way : Way) → command_of (understood (store_schema way) resent_put_text) ≡ Insert (resent_place way) (Values resent_put_terms 2)
unfolding understood everything
resent_put_is Fresh = refl
resent_put_is Migrated = refl

pub resent_put_plain : (way : Way) → IsPlain (understood (store_schema way) resent_put_text)
unfolding understood everything
resent_put_plain Fresh = (refl, refl)
resent_put_plain Migrated = (refl, refl)

pub resent_take_is : (way : Way)
    → command_of (understood (store_schema way) resent_take_text) ≡ Delete (resent_place way) (delete_program (resent_tree way) number_terms)
unfolding understood everything
resent_take_is Fresh = refl
resent_take_is Migrated = refl

pub resent_take_plain : (way : Way) → IsPlain (understood (store_schema way) resent_take_text)
unfolding understood everything
resent_take_plain Fresh = (refl, refl)
resent_take_plain Migrated = (refl, refl)

abbrev pub resent_column_terms : List Term
resent_column_terms = col 1 0 ∷ []

pub resent_read_is : (way : Way) → command_of (understood (store_schema way) resent_read_text)
    ≡ Select (record { lets = []; body = over_table (resent_tree way) number_terms resent_column_terms by_number (lit (Int (negsuc 0))) }) (codes "number" ∷ [])
unfolding understood everything
resent_read_is Fresh = refl
resent_read_is Migrated = refl

pub resent_read_plain : (way : Way) → IsPlain (understood (store_schema way) resent_read_text)
unfolding understood everything
resent_read_plain Fresh = (refl, refl)
resent_read_plain Migrated = (refl, refl)

pub resent_read_unlisted : (way : Way) → reads_listing (store_schema way) resent_read_text ≡ false
unfolding understood everything
resent_read_unlisted Fresh = refl
resent_read_unlisted Migrated = refl

abbrev pub tried_terms : List Term
tried_terms = op2 (Compare Eq Binary) (col 1 0) (col 0 0) ∷ op2 (Compare Ge Binary) (col 1 8) (lit (Int (pos 1))) ∷ []

pub tried_is : (way : Way) → command_of (understood (store_schema way) tried_text)
    ≡ Select (record { lets = []; body = over_table outbox_tree tried_terms resent_column_terms by_number (lit (Int (negsuc 0))) }) (codes "number" ∷ [])
unfolding understood everything
tried_is Fresh = refl
tried_is Migrated = refl

pub tried_plain : (way : Way) → IsPlain (understood (store_schema way) tried_text)
unfolding understood everything
tried_plain Fresh = (refl, refl)
tried_plain Migrated = (refl, refl)

pub tried_unlisted : (way : Way) → reads_listing (store_schema way) tried_text ≡ false
unfolding understood everything
tried_unlisted Fresh = refl
tried_unlisted Migrated = refl
