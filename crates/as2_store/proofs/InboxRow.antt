-- The row of an entry goes into the inbox.
use Rattle.std.proofs.Common.{◌≡◌, ◌<◌, ◌^◌, ℕ, Option, Some, None, Ok, refl, pos, arith, w64, to_z, of_z}
use Rattle.sqlite.specs.Values.{bound_value}
use Rattle.sqlite.specs.Kind.TheVariants.{Text, Blob}
use Rattle.sqlite.specs.Cast.{cast}
use Rattle.sqlite.specs.Tree.{put_row}
use Rattle.sqlite.specs.State.{State as Connected, Executes}
use Rattle.sql_tables.specs.Changes.{ChangesTable}
use Rattle.sql_tables.proofs.Writes.{cast_int, cast_null, IsOneRow, inserts_given}
use Rattle.as2_mdn.specs.declared.report.ReceiptMic.{ReceiptMic}
use Rattle.as2_exchange.specs.declared.inbox.InEntry.{InEntry}
use Rattle.as2_exchange.specs.declared.inbox.ReceiptDelivery.{ReceiptDelivery}
use Rattle.as2_exchange.specs.declared.inbox.ReceiptDelivery.TheVariants.{NoReceipt, Sync, Async}
use Rattle.as2_mdn.specs.declared.outcome.Outcome.{Outcome}
use Rattle.as2_mdn.specs.declared.outcome.Outcome.TheVariants.{DecryptionFailed, DecompressionFailed, AuthenticationFailed, UnsupportedFormat, UnsupportedMicAlgorithms, Processed}
use Rattle.as2_exchange.specs.declared.inbox.ReceiptStage.{ReceiptStage}
use Rattle.as2_exchange.specs.declared.inbox.ReceiptStage.TheVariants.{Unasked, Pending, Sent}
use Rattle.as2_exchange.specs.declared.attempt.Attempt.{Attempt}
use Rattle.as2_exchange.specs.declared.attempt.Attempt.TheVariants.{Idle, Running, Last, Used}
use Rattle.as2_rows.specs.Codes.{outcome_code, how_code, receipt_stage_code, attempt_code}
use Rattle.as2_store.proofs.MetaRow.{fits_i64}
use Rattle.as2_rows.specs.Rows.{in_row, in_shown, url_value, digest_value, mic_value}
use Rattle.as2_store.specs.Tables.{Way, store_schema, inbox_table, inbox_tree}
use Rattle.as2_store.proofs.Statements.{in_put_text}
use Rattle.as2_store.proofs.WaitingRows.{cast_optional}
use Rattle.as2_store.proofs.Texts.{inbox_place, inbox_there, in_put_terms, in_put_is, in_put_plain}

pub cast_url : (how : ReceiptDelivery) → cast Blob (url_value how) ≡ url_value how
cast_url NoReceipt = refl
cast_url Sync = refl
cast_url (Async url) = refl

pub cast_digest : (mic : Option ReceiptMic) → cast Text (digest_value mic) ≡ digest_value mic
cast_digest None = refl
cast_digest (Some mic) = refl

pub cast_mic : (mic : Option ReceiptMic) → cast Blob (mic_value mic) ≡ mic_value mic
cast_mic None = refl
cast_mic (Some mic) = refl

-- ---- as it is bound

pub bound_url : (how : ReceiptDelivery) → bound_value (url_value how) ≡ url_value how
bound_url NoReceipt = refl
bound_url Sync = refl
bound_url (Async url) = refl

pub bound_digest : (mic : Option ReceiptMic) → bound_value (digest_value mic) ≡ digest_value mic
bound_digest None = refl
bound_digest (Some mic) = refl

pub bound_mic : (mic : Option ReceiptMic) → bound_value (mic_value mic) ≡ mic_value mic
bound_mic None = refl
bound_mic (Some mic) = refl

-- a code passes as i64
pub passed_outcome : (o : Outcome) → to_z w64 (of_z w64 (pos (outcome_code o))) ≡ pos (outcome_code o)
passed_outcome o = fits_i64 (outcome_code o) (small o)
  where
    small : (o : Outcome) → outcome_code o < 2 ^ 63
    small DecryptionFailed = omega arith
    small DecompressionFailed = omega arith
    small AuthenticationFailed = omega arith
    small UnsupportedFormat = omega arith
    small UnsupportedMicAlgorithms = omega arith
    small Processed = omega arith

pub passed_how : (how : ReceiptDelivery) → to_z w64 (of_z w64 (pos (how_code how))) ≡ pos (how_code how)
passed_how how = fits_i64 (how_code how) (small how)
  where
    small : (how : ReceiptDelivery) → how_code how < 2 ^ 63
    small NoReceipt = omega arith
    small Sync = omega arith
    small (Async url) = omega arith

pub passed_receipt : (receipt_stage : ReceiptStage) → to_z w64 (of_z w64 (pos (receipt_stage_code receipt_stage))) ≡ pos (receipt_stage_code receipt_stage)
passed_receipt receipt_stage = fits_i64 (receipt_stage_code receipt_stage) (small receipt_stage)
  where
    small : (receipt_stage : ReceiptStage) → receipt_stage_code receipt_stage < 2 ^ 63
    small Unasked = omega arith
    small Pending = omega arith
    small Sent = omega arith

pub passed_attempt : (attempt : Attempt) → to_z w64 (of_z w64 (pos (attempt_code attempt))) ≡ pos (attempt_code attempt)
passed_attempt attempt = fits_i64 (attempt_code attempt) (small attempt)
  where
    small : (attempt : Attempt) → attempt_code attempt < 2 ^ 63
    small Idle = omega arith
    small Running = omega arith
    small Last = omega arith
    small Used = omega arith

-- ---- the statement

one_in : (way : Way) (e : InEntry) → IsOneRow (inbox_table way) (in_shown e) in_put_terms 18 (in_row e)
one_in way e = record { source = in_row e; made = refl; cast_is = simp (cast_int, cast_null, cast_optional, cast_url, cast_digest, cast_mic) }

pub puts_in : (way : Way) (old new : Connected) (e : InEntry) (count : ℕ) → old.now.schema ≡ store_schema way
    → Executes in_put_text (in_shown e) old new (Ok count)
    → ChangesTable old new (store_schema way) (inbox_tree way) (put_row (in_row e) (old.now.trees (inbox_tree way)))
puts_in way old new e count has h =
    inserts_given in_put_text (in_shown e) old new (store_schema way) has (inbox_place way) (inbox_table way)
    (inbox_there way) refl in_put_terms 18 (in_row e) (one_in way e) refl (in_put_is way) (in_put_plain way) count h
