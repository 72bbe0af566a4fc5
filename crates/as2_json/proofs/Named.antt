-- The words that stand in members are UTF-8, and so are names and identifiers.
use Rattle.std.proofs.Common.{ℕ, List, refl}
use Rattle.std.specs.Prelude.{IsUtf8}
use Rattle.json.proofs.Printed.Utf8.{IsUtf8-are_ascii}
use Rattle.as2_names.specs.Identifiers.{IsIdentifier}
use Rattle.as2_names.specs.Names.{IsName}
use Rattle.as2_names.proofs.Printable.{printable_text}
use Rattle.as2_mdn.specs.Details.{name_of}
use Rattle.as2_mdn.specs.declared.detail.Detail.{Detail}
use Rattle.as2_mdn.specs.declared.detail.Detail.TheVariants as detail
use Rattle.as2_mdn.specs.declared.detail.DetailClass.{DetailClass}
use Rattle.as2_mdn.specs.declared.detail.DetailClass.TheVariants as class
use Rattle.as2_exchange.specs.declared.inbox.ReceiptStage.{ReceiptStage}
use Rattle.as2_exchange.specs.declared.inbox.ReceiptStage.TheVariants as receipt_stage
use Rattle.as2_audit.specs.Texts.{fault_text}
use Rattle.as2_audit.specs.declared.fault.Fault.{Fault}
use Rattle.as2_audit.specs.declared.fault.Fault.TheVariants as fault
use Rattle.as2_audit.specs.declared.findings.Mailbox.{Mailbox}
use Rattle.as2_audit.specs.declared.findings.Mailbox.TheVariants as mailbox
use Rattle.as2_views.specs.Layout.{state_text}
use Rattle.as2_json.specs.Words.{box_word, receipt_word}

pub name_utf8 : (name : List ℕ) → IsName name → IsUtf8 name
name_utf8 name h = printable_text name h.printable

pub id_utf8 : (id : List ℕ) → IsIdentifier id → IsUtf8 id
id_utf8 id h = printable_text id h.printable

pub detail_utf8 : (d : Detail) → IsUtf8 (name_of d)
detail_utf8 detail.New = IsUtf8-are_ascii _ refl
detail_utf8 detail.Sending = IsUtf8-are_ascii _ refl
detail_utf8 detail.Awaiting = IsUtf8-are_ascii _ refl
detail_utf8 detail.Retry = IsUtf8-are_ascii _ refl
detail_utf8 detail.Processed = IsUtf8-are_ascii _ refl
detail_utf8 detail.NoReceiptAsked = IsUtf8-are_ascii _ refl
detail_utf8 detail.Warning = IsUtf8-are_ascii _ refl
detail_utf8 detail.NoMic = IsUtf8-are_ascii _ refl
detail_utf8 detail.UnknownMic = IsUtf8-are_ascii _ refl
detail_utf8 detail.NotProcessed = IsUtf8-are_ascii _ refl
detail_utf8 detail.ErrorModifier = IsUtf8-are_ascii _ refl
detail_utf8 detail.MicDiffers = IsUtf8-are_ascii _ refl
detail_utf8 detail.TriesUsed = IsUtf8-are_ascii _ refl
detail_utf8 detail.Overdue = IsUtf8-are_ascii _ refl

pub state_utf8 : (s : DetailClass) → IsUtf8 (state_text s)
state_utf8 class.P = IsUtf8-are_ascii _ refl
state_utf8 class.R = IsUtf8-are_ascii _ refl
state_utf8 class.S = IsUtf8-are_ascii _ refl
state_utf8 class.W = IsUtf8-are_ascii _ refl
state_utf8 class.E = IsUtf8-are_ascii _ refl

pub receipt_utf8 : (m : ReceiptStage) → IsUtf8 (receipt_word m)
receipt_utf8 receipt_stage.Unasked = IsUtf8-are_ascii _ refl
receipt_utf8 receipt_stage.Pending = IsUtf8-are_ascii _ refl
receipt_utf8 receipt_stage.Sent = IsUtf8-are_ascii _ refl

pub box_utf8 : (m : Mailbox) → IsUtf8 (box_word m)
box_utf8 mailbox.Inbox = IsUtf8-are_ascii _ refl
box_utf8 mailbox.Outbox = IsUtf8-are_ascii _ refl

pub fault_utf8 : (f : Fault) → IsUtf8 (fault_text f)
fault_utf8 fault.NoMic = IsUtf8-are_ascii _ refl
fault_utf8 fault.StrayMic = IsUtf8-are_ascii _ refl
fault_utf8 fault.MicDiffers = IsUtf8-are_ascii _ refl
fault_utf8 fault.NoReceipt = IsUtf8-are_ascii _ refl
fault_utf8 fault.StrayReceipt = IsUtf8-are_ascii _ refl
fault_utf8 fault.StillWaits = IsUtf8-are_ascii _ refl
fault_utf8 fault.NeverBegun = IsUtf8-are_ascii _ refl
fault_utf8 fault.UnreadableReceipt = IsUtf8-are_ascii _ refl
fault_utf8 fault.ReceiptOfAnother = IsUtf8-are_ascii _ refl
fault_utf8 fault.DetailDiffers = IsUtf8-are_ascii _ refl
fault_utf8 fault.NeverGiven = IsUtf8-are_ascii _ refl
fault_utf8 fault.WaitsOtherwise = IsUtf8-are_ascii _ refl
