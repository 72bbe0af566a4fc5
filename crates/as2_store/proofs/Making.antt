-- What the texts that make tables mean.
use Rattle.std.proofs.Common.{◌≡◌, Ok, refl}
use Rattle.sqlite.specs.Compile.{table_defined_by, index_defined_by}
use Rattle.sqlite.specs.Command.TheVariants.{CreateTable, CreateIndex}
use Rattle.sqlite.specs.Schema.{Schema}
use Rattle.sqlite.specs.Change.{created}
use Rattle.sqlite.specs.Listing.{understood}
use Rattle.sqlite.proofs.Callers.{IsPlain, command_of, statement_of}
use Rattle.sqlite_tied.specs.Compute.{everything}
use Rattle.as2_store.proofs.Statements.{meta_text, inbox2_text, inbox2_piece_text, outbox_text, outbox_piece_text, evidence_statement, waiting_text, waiting_due_text, origin_text, resent_text}
use Rattle.as2_store.specs.Tables.{meta_made, inbox2_made, inbox2_piece_made, outbox_made, outbox_piece_made, evidence_made, waiting_made, waiting_table, waiting_due_made, origin_made, resent_made, no_schema, inbox_schema, outbox_schema, waiting_schema}

-- ---- the schemas between

abbrev pub with_meta : Schema
with_meta = created no_schema meta_made

abbrev pub with_inbox : Schema
with_inbox = created with_meta inbox2_made

abbrev pub with_outbox : Schema
with_outbox = created inbox_schema outbox_made

abbrev pub with_outbox_piece : Schema
with_outbox_piece = created with_outbox outbox_piece_made

abbrev pub with_waiting : Schema
with_waiting = created outbox_schema waiting_made

abbrev pub with_origin : Schema
with_origin = created waiting_schema origin_made

-- ---- the texts

pub meta_is : table_defined_by meta_text ≡ Ok meta_made
unfolding everything
meta_is = refl

pub meta_create : (command_of (understood no_schema meta_text) ≡ CreateTable) × (statement_of meta_text (understood no_schema meta_text) ≡ meta_text)
unfolding understood everything
meta_create = (refl, refl)

pub meta_plain : IsPlain (understood no_schema meta_text)
unfolding understood everything
meta_plain = (refl, refl)

pub inbox_is : table_defined_by inbox2_text ≡ Ok inbox2_made
unfolding everything
inbox_is = refl

pub inbox_create : (command_of (understood with_meta inbox2_text) ≡ CreateTable) × (statement_of inbox2_text (understood with_meta inbox2_text) ≡ inbox2_text)
unfolding understood everything
inbox_create = (refl, refl)

pub inbox_plain : IsPlain (understood with_meta inbox2_text)
unfolding understood everything
inbox_plain = (refl, refl)

pub inbox_piece_is : table_defined_by inbox2_piece_text ≡ Ok inbox2_piece_made
unfolding everything
inbox_piece_is = refl

pub inbox_piece_create : (command_of (understood with_inbox inbox2_piece_text) ≡ CreateTable)
    × (statement_of inbox2_piece_text (understood with_inbox inbox2_piece_text) ≡ inbox2_piece_text)
unfolding understood everything
inbox_piece_create = (refl, refl)

pub inbox_piece_plain : IsPlain (understood with_inbox inbox2_piece_text)
unfolding understood everything
inbox_piece_plain = (refl, refl)

pub outbox_is : table_defined_by outbox_text ≡ Ok outbox_made
unfolding everything
outbox_is = refl

pub outbox_create : (command_of (understood inbox_schema outbox_text) ≡ CreateTable)
    × (statement_of outbox_text (understood inbox_schema outbox_text) ≡ outbox_text)
unfolding understood everything
outbox_create = (refl, refl)

pub outbox_plain : IsPlain (understood inbox_schema outbox_text)
unfolding understood everything
outbox_plain = (refl, refl)

pub outbox_piece_is : table_defined_by outbox_piece_text ≡ Ok outbox_piece_made
unfolding everything
outbox_piece_is = refl

pub outbox_piece_create : (command_of (understood with_outbox outbox_piece_text) ≡ CreateTable)
    × (statement_of outbox_piece_text (understood with_outbox outbox_piece_text) ≡ outbox_piece_text)
unfolding understood everything
outbox_piece_create = (refl, refl)

pub outbox_piece_plain : IsPlain (understood with_outbox outbox_piece_text)
unfolding understood everything
outbox_piece_plain = (refl, refl)

pub evidence_is : table_defined_by evidence_statement ≡ Ok evidence_made
unfolding everything
evidence_is = refl

pub evidence_create : (command_of (understood with_outbox_piece evidence_statement) ≡ CreateTable)
    × (statement_of evidence_statement (understood with_outbox_piece evidence_statement) ≡ evidence_statement)
unfolding understood everything
evidence_create = (refl, refl)

pub evidence_plain : IsPlain (understood with_outbox_piece evidence_statement)
unfolding understood everything
evidence_plain = (refl, refl)

pub waiting_is : table_defined_by waiting_text ≡ Ok waiting_made
unfolding everything
waiting_is = refl

pub waiting_create : (command_of (understood outbox_schema waiting_text) ≡ CreateTable)
    × (statement_of waiting_text (understood outbox_schema waiting_text) ≡ waiting_text)
unfolding understood everything
waiting_create = (refl, refl)

pub waiting_plain : IsPlain (understood outbox_schema waiting_text)
unfolding understood everything
waiting_plain = (refl, refl)

pub waiting_due_is : index_defined_by waiting_table waiting_due_text ≡ Ok waiting_due_made
unfolding everything
waiting_due_is = refl

pub waiting_due_create : (command_of (understood with_waiting waiting_due_text) ≡ CreateIndex 6)
    × (statement_of waiting_due_text (understood with_waiting waiting_due_text) ≡ waiting_due_text)
unfolding understood everything
waiting_due_create = (refl, refl)

pub waiting_due_plain : IsPlain (understood with_waiting waiting_due_text)
unfolding understood everything
waiting_due_plain = (refl, refl)

pub origin_is : table_defined_by origin_text ≡ Ok origin_made
unfolding everything
origin_is = refl

pub origin_create : (command_of (understood waiting_schema origin_text) ≡ CreateTable)
    × (statement_of origin_text (understood waiting_schema origin_text) ≡ origin_text)
unfolding understood everything
origin_create = (refl, refl)

pub origin_plain : IsPlain (understood waiting_schema origin_text)
unfolding understood everything
origin_plain = (refl, refl)

pub resent_is : table_defined_by resent_text ≡ Ok resent_made
unfolding everything
resent_is = refl

pub resent_create : (command_of (understood with_origin resent_text) ≡ CreateTable)
    × (statement_of resent_text (understood with_origin resent_text) ≡ resent_text)
unfolding understood everything
resent_create = (refl, refl)

pub resent_plain : IsPlain (understood with_origin resent_text)
unfolding understood everything
resent_plain = (refl, refl)
