-- What is wrong with an entry of the records, as far as its own words tell: the first that fits.
use Rattle.std.specs.Prelude.{Bool, false, not, ◌&&◌, ◌||◌, nat_le, Option, Some, None, option_and_then, is_some, is_none, bytes_eq, if◌then◌else◌}
use Rattle.std.specs.Option.{option_map_or}
use Rattle.as2_mdn.specs.Details.{name_of}
use Rattle.as2_mdn.specs.Receipts.{Mic, Given, Unreadable}
use Rattle.as2_mdn.specs.declared.detail.Detail.{Detail}
use Rattle.as2_mic.specs.Algs.{AllDigests, alg_named, is_late}
use Rattle.as2_exchange.specs.Agreement.{Text}
use Rattle.as2_exchange.specs.Invariants.{is_by_receipt}
use Rattle.as2_exchange.specs.Readings.{Receipt, is_processed, named_by, report_in, media_type_of, value_of, verdict}
use Rattle.as2_exchange.specs.declared.inbox.Posted.{Posted}
use Rattle.as2_exchange.specs.declared.outbox.Evidence.{Evidence}
use Rattle.as2_exchange.specs.declared.outbox.OutEntry.{OutEntry}
use Rattle.as2_exchange.specs.Tries.{is_idle}
use Rattle.as2_posts.specs.Answers.{has_kept_mic}
use Rattle.as2_audit.specs.declared.fault.Fault.{Fault}
use Rattle.as2_audit.specs.declared.fault.Fault.TheVariants.{NoMic, StrayMic, MicDiffers, NoReceipt, StrayReceipt, StillWaits, NeverBegun, UnreadableReceipt, ReceiptOfAnother, DetailDiffers}

-- ---- documents that were received (RFC 4130, section 7.3.1)

-- a MIC is kept exactly of a processed document, and is that of the content
abbrev pub received_fault : Posted → Option Fault
received_fault p =
    if is_processed p.outcome && is_none p.mic then Some NoMic
    else if not (is_processed p.outcome) && is_some p.mic then Some StrayMic
    else if not (has_kept_mic p) then Some MicDiffers
    else None

-- ---- documents that are sent (RFC 4130, sections 7.4 and 7.5; RFC 8098, section 3)

-- the receipt that is kept, where it can be read
abbrev pub kept_receipt : Evidence → Option Receipt
kept_receipt e = option_and_then (λ type. report_in type.0 e.body) (media_type_of e.content_type)

-- both are one detail: no two have one name
abbrev pub is_detail : Detail → Detail → Bool
is_detail one other = bytes_eq (name_of one) (name_of other)

-- the MIC is by a digest that earlier stores didn't know
abbrev pub is_by_late : Mic → Bool
is_by_late (Given field) = option_map_or is_late (alg_named AllDigests field.1) false
is_by_late other = false

-- The receipt gives the content this detail. In records that were migrated the digest may not have been known when it came.
abbrev pub gives : Bool → Receipt → Text → Detail → Bool
gives migrated r content detail =
    is_detail (verdict AllDigests r content) detail
    || ((migrated && is_by_late r.mic) && is_detail (verdict AllDigests (record r { mic = Unreadable }) content) detail)

-- a readable receipt that settled the document
abbrev pub receipt_fault : Bool → OutEntry → Option Receipt → Option Fault
receipt_fault migrated d None = Some UnreadableReceipt
receipt_fault migrated d (Some r) =
    if not (bytes_eq (named_by r) (value_of d.id)) then Some ReceiptOfAnother
    else if not (gives migrated r d.content d.detail) then Some DetailDiffers
    else None

-- a document with a receipt, or without one
abbrev pub settled_fault : Bool → OutEntry → Option Evidence → Option Fault
settled_fault migrated d None = if is_by_receipt d.detail then Some NoReceipt else None
settled_fault migrated d (Some e) =
    if not (is_by_receipt d.detail) then Some StrayReceipt
    else if not (is_idle d.attempt) || is_some d.due then Some StillWaits
    else receipt_fault migrated d (kept_receipt e)

-- a document that was tried was begun, and what is kept of its receipt is what its detail says
abbrev pub sent_fault : Bool → OutEntry → Option Fault
sent_fault migrated d = if nat_le 1 d.tries && not d.begun then Some NeverBegun else settled_fault migrated d d.evidence
