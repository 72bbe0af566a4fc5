-- Entries as rows: as they are stored, with the row's number first and NULL in the column that repeats it; and as a query
-- shows them, with all columns in order.
use Rattle.std.specs.Prelude.{ℕ, [], ◌∷◌, Option, Some, None, pos}
use Rattle.sqlite_value.specs.declared.value.Value.{Value}
use Rattle.sqlite_value.specs.declared.value.Value.TheVariants.{Null, Int, Text, Blob}
use Rattle.sqlite_value.specs.Order.{Row}
use Rattle.as2_names.specs.Identifiers.{without_brackets}
use Rattle.as2_mic.specs.Algs.{alg_name}
use Rattle.as2_mdn.specs.declared.report.ReceiptMic.{ReceiptMic}
use Rattle.as2_exchange.specs.declared.inbox.ReceiptDelivery.{ReceiptDelivery}
use Rattle.as2_exchange.specs.declared.inbox.ReceiptDelivery.TheVariants.{NoReceipt, Sync, Async}
use Rattle.as2_exchange.specs.declared.inbox.InEntry.{InEntry}
use Rattle.as2_exchange.specs.declared.outbox.OutEntry.{OutEntry}
use Rattle.as2_exchange.specs.declared.outbox.Evidence.{Evidence}
use Rattle.as2_records.specs.declared.summaries.InRow.{InRow}
use Rattle.as2_records.specs.declared.summaries.OutRow.{OutRow}
use Rattle.as2_records.specs.Summaries.{in_summary, out_summary}
use Rattle.as2_rows.specs.Codes.{outcome_code, how_code, receipt_stage_code, attempt_code, detail_code}

-- ---- values

-- a whole number
abbrev pub whole : ℕ → Value
whole n = Int (pos n)

-- NULL is what is absent
abbrev pub whole_or_null : Option ℕ → Value
whole_or_null None = Null
whole_or_null (Some n) = whole n

-- the address that a receipt is sent to
abbrev pub url_value : ReceiptDelivery → Value
url_value NoReceipt = Null
url_value Sync = Null
url_value (Async url) = Blob url

-- the digest of a MIC, by its name
abbrev pub digest_value : Option ReceiptMic → Value
digest_value None = Null
digest_value (Some mic) = Text (alg_name mic.digest)

-- the text of a MIC
abbrev pub mic_value : Option ReceiptMic → Value
mic_value None = Null
mic_value (Some mic) = Blob mic.text

-- ---- the inbox

-- the columns behind the number: sender, receiver, the identifier's value, the identifier, content type, length, moment,
-- outcome, how, url, digest, mic, mdn, tries, attempt, due
abbrev pub in_columns : InRow → Row
in_columns r =
    Blob r.sender
    ∷ Blob r.receiver
    ∷ Blob (without_brackets r.id)
    ∷ Blob r.id
    ∷ Blob r.content_type
    ∷ whole r.length
    ∷ whole r.moment
    ∷ whole (outcome_code r.outcome)
    ∷ whole (how_code r.how)
    ∷ url_value r.how
    ∷ digest_value r.mic
    ∷ mic_value r.mic
    ∷ whole (receipt_stage_code r.receipt_stage)
    ∷ whole r.tries
    ∷ whole (attempt_code r.attempt)
    ∷ whole_or_null r.due
    ∷ []

-- as it is stored
abbrev pub in_row : InEntry → Row
in_row e = whole e.number ∷ Null ∷ in_columns (in_summary e)

-- as a query shows it
abbrev pub in_row_shown : InRow → Row
in_row_shown r = whole r.number ∷ in_columns r

abbrev pub in_shown : InEntry → Row
in_shown e = in_row_shown (in_summary e)

-- ---- the outbox

-- the columns behind the number: organization, partner, the identifier's value, the identifier, length, moment, tries,
-- attempt, due, detail
abbrev pub out_columns : OutRow → Row
out_columns r =
    Blob r.organization
    ∷ Blob r.partner
    ∷ Blob (without_brackets r.id)
    ∷ Blob r.id
    ∷ whole r.length
    ∷ whole r.moment
    ∷ whole r.tries
    ∷ whole (attempt_code r.attempt)
    ∷ whole_or_null r.due
    ∷ whole (detail_code r.detail)
    ∷ []

-- as it is stored
abbrev pub out_row : OutEntry → Row
out_row d = whole d.number ∷ Null ∷ out_columns (out_summary d)

-- as a query shows it
abbrev pub out_row_shown : OutRow → Row
out_row_shown r = whole r.number ∷ out_columns r

abbrev pub out_shown : OutEntry → Row
out_shown d = out_row_shown (out_summary d)

-- ---- the evidence of the document of that number

-- the columns behind the number: moment, content type, body
abbrev pub evidence_columns : Evidence → Row
evidence_columns e = whole e.moment ∷ Blob e.content_type ∷ Blob e.body ∷ []

-- as it is stored
abbrev pub evidence_row : ℕ → Evidence → Row
evidence_row number e = whole number ∷ Null ∷ evidence_columns e

-- as a query shows it
abbrev pub evidence_shown : ℕ → Evidence → Row
evidence_shown number e = whole number ∷ evidence_columns e
