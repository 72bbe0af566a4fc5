-- A report that is written is read as its own receipt, and as no other.
use Rattle.std.specs.Prelude.{◌≡◌, ℕ, ◌<◌, ◌^◌, List, Option, Some, None, ⊤, codes}
use Rattle.as2_names.specs.Names.{IsName}
use Rattle.as2_names.specs.Identifiers.{IsIdentifier}
use Rattle.as2_media.specs.MediaTypes.{Media, IsMediaType}
use Rattle.as2_mic.specs.Algs.{alg_name}
use Rattle.as2_mic.specs.Mic.{IsMicText}
use Rattle.as2_mdn.specs.declared.outcome.Outcome.{Outcome}
use Rattle.as2_mdn.specs.declared.outcome.Outcome.TheVariants.{DecryptionFailed, DecompressionFailed, AuthenticationFailed, UnsupportedFormat, UnsupportedMicAlgorithms, Processed}
use Rattle.as2_mdn.specs.declared.report.ReceiptMic.{ReceiptMic}
use Rattle.as2_mdn.specs.declared.report.ReceiptOut.{ReceiptOut}
use Rattle.as2_mdn.specs.MicBytes.{IsOfMicBytes}
use Rattle.as2_mdn.specs.Receipts.{ReceiptRead, Mic, Missing, Given}
use Rattle.as2_mdn.specs.ReportReading.{IsReport}
use Rattle.as2_mdn.specs.Reports.{content_type_text, receipt_text}

-- ---- the receipt of a report

-- the disposition of an outcome: its type, and its modifier, which is empty where there is none
abbrev pub disposition_of : Outcome → List ℕ × List ℕ
disposition_of DecryptionFailed = (codes "processed", codes "error: decryption-failed")
disposition_of DecompressionFailed = (codes "processed", codes "error: decompression-failed")
disposition_of AuthenticationFailed = (codes "processed", codes "error: authentication-failed")
disposition_of UnsupportedFormat = (codes "failed", codes "failure: unsupported format")
disposition_of UnsupportedMicAlgorithms = (codes "failed", codes "failure: unsupported MIC-algorithms")
disposition_of Processed = (codes "processed", codes "")

-- the text of the MIC and the name of its digest
abbrev pub mic_in_report : Option ReceiptMic → Mic
mic_in_report None = Missing
mic_in_report (Some mic) = Given (mic.text, alg_name mic.digest)

-- the receipt that a report is of
abbrev pub receipt_of : ReceiptOut → ReceiptRead
receipt_of out =
    record { original_id = out.original_id; disposition = disposition_of out.outcome; mic = mic_in_report out.mic }

-- ---- the reports that are written

-- the MIC, if there is one, is 1 to 44 bytes
abbrev pub HasMicText : Option ReceiptMic → Type 0
HasMicText None = ⊤
HasMicText (Some mic) = IsMicText mic.text

-- what each value of a report is by its own type
pub record IsOut (out : ReceiptOut) : Type 0 where
  pub number : out.number < 2 ^ 64
  pub from : IsName out.from
  pub original_id : IsIdentifier out.original_id
  pub mic : HasMicText out.mic

-- the MIC, if there is one, is letters, digits, `+`, `/` and `=`
abbrev pub HasMicBytes : Option ReceiptMic → Type 0
HasMicBytes None = ⊤
HasMicBytes (Some mic) = IsOfMicBytes mic.text

-- under each media type that the report's Content-Type spells, the text is a report of its own receipt
abbrev pub IsItsReport : ReceiptOut → List ℕ → Type 0
IsItsReport out text =
    HasMicBytes out.mic → (media : Media) → IsMediaType (content_type_text out.number) media → IsReport media text (receipt_of out)

-- ---- the laws

-- its Content-Type spells a media type
abbrev pub ReportsHaveTypes : Type 0
ReportsHaveTypes = (out : ReceiptOut) → IsOut out → (media : Media) × IsMediaType (content_type_text out.number) media

-- its text is a report of its own receipt
abbrev pub ReportsAreRead : Type 0
ReportsAreRead = (out : ReceiptOut) → IsOut out → IsItsReport out (receipt_text out)

-- and of no other
abbrev pub ReportsAreOfOne : Type 0
ReportsAreOfOne =
    (out : ReceiptOut) (media : Media) (receipt : ReceiptRead) → IsOut out → HasMicBytes out.mic → IsMediaType (content_type_text out.number) media → IsReport media (receipt_text out) receipt → receipt ≡ receipt_of out
