-- What the pages of evidence say in words.
use Rattle.std.specs.Prelude.{ℕ, codes, map, Option, Some, None, ◌++◌, if◌then◌else◌}
use Rattle.as2_names.specs.Ascii.{is_printable, question_mark}
use Rattle.as2_exchange.specs.Agreement.{Text}
use Rattle.as2_exchange.specs.declared.inbox.ReceiptStage.{ReceiptStage}
use Rattle.as2_exchange.specs.declared.inbox.ReceiptStage.TheVariants.{Sent}
use Rattle.as2_exchange.specs.declared.inbox.ReceiptDelivery.{ReceiptDelivery}
use Rattle.as2_exchange.specs.declared.inbox.ReceiptDelivery.TheVariants.{NoReceipt, Sync, Async}
use Rattle.as2_mdn.specs.Dispositions.{given_modifier}
use Rattle.as2_mdn.specs.Receipts.{Mic, Missing, Unreadable, Given}
use Rattle.as2_mdn.specs.Reports.{mic_with_digest}
use Rattle.as2_mdn.specs.declared.detail.Detail.{Detail}
use Rattle.as2_mdn.specs.declared.detail.Detail.TheVariants.{New, Sending, Awaiting, Retry, Processed, NoReceiptAsked, Warning, NoMic, UnknownMic, NotProcessed, ErrorModifier, MicDiffers, TriesUsed, Overdue}
use Rattle.as2_mdn.specs.declared.report.ReceiptMic.{ReceiptMic}

-- a byte, where it prints, or a question mark
abbrev pub printing_byte : ℕ → ℕ
printing_byte byte = if is_printable byte then byte else question_mark

-- a text that somebody else wrote, with `?` for each byte that doesn't print: it is one line
abbrev pub printing_text : Text → Text
printing_text text = map printing_byte text

-- ---- documents that are sent

-- what a detail says (RFC 4130, sections 7.4 and 7.5; RFC 8098, section 3.2.6)
abbrev pub detail_words : Detail → Text
detail_words New = codes "no try has begun since it was submitted or sent anew"
detail_words Sending = codes "a try is open, or was cut off; the partner may have it"
detail_words Awaiting = codes "delivered, as the partner's answer says; the receipt is to come"
detail_words Retry = codes "the last try failed, and another is to come; the partner may have it"
detail_words Processed = codes "a receipt says \"processed\" without modifier, and carries the integrity check (MIC) of this content"
detail_words NoReceiptAsked = codes "delivered, as the partner's answer says; no receipt is agreed"
detail_words Warning = codes "a receipt says \"processed\" with a modifier that is no error and no failure; it doesn't confirm this content"
detail_words NoMic = codes "a receipt says \"processed\", and carries no integrity check (MIC)"
detail_words UnknownMic = codes "a receipt says \"processed\", and its integrity check (MIC) can't be read, or is by a digest that isn't known"
detail_words NotProcessed = codes "a receipt says other than \"processed\""
detail_words ErrorModifier = codes "a receipt says \"processed\" with an error or a failure"
detail_words MicDiffers = codes "a receipt says \"processed\", and the integrity check (MIC) that it carries isn't this content's"
detail_words TriesUsed = codes "no try since it was last to be sent was answered as it is agreed; the partner may have it"
detail_words Overdue = codes "delivered, as the partner's answer says; no receipt came in time"

-- behind a disposition's type: `/` and its modifier, where it has one
abbrev pub modifier_words : Option Text → Text
modifier_words None = codes ""
modifier_words (Some modifier) = codes "/" ++ modifier

-- a disposition's type and modifier, as they are spelled (RFC 8098, section 3.2.6)
abbrev pub disposition_words : Text × Text → Text
disposition_words disposition = disposition.0 ++ modifier_words (given_modifier disposition)

-- the MIC that a receipt gives which came (RFC 4130, section 7.4.3)
abbrev pub read_mic_words : Mic → Text
read_mic_words Missing = codes "-"
read_mic_words Unreadable = codes "can't be read"
read_mic_words (Given field) = field.0 ++ codes ", " ++ field.1

-- ---- documents that were received

-- whether a receipt that is sent by a request of its own was taken
abbrev pub taken_words : ReceiptStage → Text
taken_words Sent = codes "by a request of its own, which was taken"
taken_words other = codes "by a request of its own, which wasn't taken since it was last to be sent"

-- how the receipt stands
abbrev pub receipt_stage_words : ReceiptDelivery → ReceiptStage → Text
receipt_stage_words NoReceipt receipt_stage = codes "none was asked for"
receipt_stage_words Sync receipt_stage = codes "in the answer to the post; whether that arrived isn't known"
receipt_stage_words (Async url) receipt_stage = taken_words receipt_stage

-- the MIC that our own receipt gives, where there is one
abbrev pub own_mic_words : Option ReceiptMic → Text
own_mic_words None = codes "-"
own_mic_words (Some mic) = mic_with_digest mic
