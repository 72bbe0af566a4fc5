-- What is listed, as objects of JSON. The members stand in the order of their names, since the kit's writer puts them so. The name of an
-- organization or a partner is the name itself, and not its spelling in a field. It is printable ASCII, as an identifier is (RFC 4130,
-- sections 5.3.3 and 6.2), so that each text here is one of JSON as it is.
use Rattle.std.specs.Prelude.{ℕ, Bool, List, [], ◌∷◌, length, codes, Option, Some, None}
use Rattle.serde_json.specs.Data.{Data, null, boolean, number, string, object, unsigned, Members, no_members, member}
use Rattle.as2_mdn.specs.Details.{class_of, name_of}
use Rattle.as2_exchange.specs.Agreement.{Text}
use Rattle.as2_exchange.specs.Readings.{is_processed}
use Rattle.as2_exchange.specs.declared.outbox.Evidence.{Evidence}
use Rattle.as2_exchange.specs.declared.outbox.OutEntry.{OutEntry}
use Rattle.as2_records.specs.declared.counts.Counts.{Counts}
use Rattle.as2_records.specs.declared.summaries.InRow.{InRow}
use Rattle.as2_records.specs.declared.summaries.OutRow.{OutRow}
use Rattle.as2_audit.specs.Texts.{fault_text}
use Rattle.as2_audit.specs.declared.findings.Finding.{Finding}
use Rattle.as2_views.specs.Layout.{state_text}
use Rattle.as2_json.specs.Words.{box_word, receipt_word}

-- a name and a value, each, as members
abbrev pub members_of : List (Text × Data) → Members
members_of [] = no_members
members_of (m ∷ rest) = member m.0 m.1 (members_of rest)

abbrev pub object_of : List (Text × Data) → Data
object_of facts = object (members_of facts)

-- a whole number
abbrev pub whole_number : ℕ → Data
whole_number n = number (unsigned n)

-- ---- listings

-- a document that is sent; whether a receipt has settled it
abbrev pub out_object : Bool → OutRow → Data
out_object is_settled r = object_of (
    (codes "box", string (codes "out"))
    ∷ (codes "detail", string (name_of r.detail))
    ∷ (codes "from", string r.organization)
    ∷ (codes "identifier", string r.id)
    ∷ (codes "number", whole_number r.number)
    ∷ (codes "settled", boolean is_settled)
    ∷ (codes "state", string (state_text (class_of r.detail)))
    ∷ (codes "to", string r.partner)
    ∷ (codes "tries", whole_number r.tries)
    ∷ [])

-- a document that was received
abbrev pub in_object : InRow → Data
in_object r = object_of (
    (codes "box", string (codes "in"))
    ∷ (codes "from", string r.sender)
    ∷ (codes "identifier", string r.id)
    ∷ (codes "number", whole_number r.number)
    ∷ (codes "processed", boolean (is_processed r.outcome))
    ∷ (codes "receipt", string (receipt_word r.receipt_stage))
    ∷ (codes "to", string r.receiver)
    ∷ [])

-- ---- what is outstanding

abbrev pub counts_object : Counts → Data
counts_object c = object_of (
    (codes "documents_in_error", whole_number c.in_error)
    ∷ (codes "documents_in_retry", whole_number c.in_retry)
    ∷ (codes "documents_not_sent", whole_number c.not_sent)
    ∷ (codes "receipts_awaited", whole_number c.awaited)
    ∷ (codes "receipts_to_send", whole_number c.to_send)
    ∷ [])

-- ---- one document

-- when something is due, in seconds since 1970
abbrev pub due_value : Option ℕ → Data
due_value None = null
due_value (Some due) = whole_number due

-- when a receipt came, in seconds since 1970, and how many bytes it has
abbrev pub receipt_value : Option Evidence → Data
receipt_value None = null
receipt_value (Some receipt) = object_of (
    (codes "length", whole_number (length receipt.body))
    ∷ (codes "moment", whole_number receipt.moment)
    ∷ [])

abbrev pub document_object : OutEntry → Data
document_object d = object_of (
    (codes "box", string (codes "out"))
    ∷ (codes "detail", string (name_of d.detail))
    ∷ (codes "due", due_value d.due)
    ∷ (codes "from", string d.organization)
    ∷ (codes "identifier", string d.id)
    ∷ (codes "length", whole_number (length d.content))
    ∷ (codes "number", whole_number d.number)
    ∷ (codes "receipt", receipt_value d.evidence)
    ∷ (codes "state", string (state_text (class_of d.detail)))
    ∷ (codes "to", string d.partner)
    ∷ (codes "tries", whole_number d.tries)
    ∷ [])

-- ---- a verification

-- what is wrong with an entry
abbrev pub finding_object : Finding → Data
finding_object f = object_of (
    (codes "box", string (box_word f.mailbox))
    ∷ (codes "fault", string (fault_text f.fault))
    ∷ (codes "number", whole_number f.number)
    ∷ [])

-- how many documents were received, how many are sent, and how many findings there are
abbrev pub verified_object : ℕ → ℕ → ℕ → Data
verified_object received sent findings = object_of (
    (codes "findings", whole_number findings)
    ∷ (codes "received", whole_number received)
    ∷ (codes "sent", whole_number sent)
    ∷ [])
