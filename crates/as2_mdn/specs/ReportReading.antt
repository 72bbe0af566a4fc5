-- The report that is read: a multipart/report (RFC 6522, section 3) whose second part is a message disposition
-- notification (RFC 8098, section 3). That part has the fields of AS2 (RFC 4130, section 7.4). And the first fault of a
-- body that is no such report.
use Rattle.std.specs.Prelude.{◌≡◌, ℕ, ◌⊎◌, Bool, true, false, ◌||◌, not, ◌==◌, List, [], ◌∷◌, length, map, if◌then◌else◌, IsTrue, Option, Some, None, Result, Ok, Err, codes}
use Rattle.std.specs.Str.{str_eq_ignore_ascii_case}
use Rattle.as2_names.specs.Ascii.{comma}
use Rattle.as2_names.specs.Cuts.{cut_at}
use Rattle.as2_names.specs.Trim.{trimmed_text}
use Rattle.as2_names.specs.Identifiers.{IsIdentifier, is_identifier}
use Rattle.as2_media.specs.declared.fault.TypeFault.{TypeFault}
use Rattle.as2_media.specs.declared.kind.Kind.{Kind}
use Rattle.as2_media.specs.declared.kind.Kind.TheVariants as kind
use Rattle.as2_media.specs.MediaTypes.{Media, IsMediaType, media_is_type}
use Rattle.as2_media.specs.MediaTypes as media_types
use Rattle.as2_media.specs.Kinds.{kind_of, boundary_of}
use Rattle.as2_parts.specs.declared.parts.PartFault.{PartFault}
use Rattle.as2_parts.specs.Fields.{FieldText, HasFields, fields, fields_named}
use Rattle.as2_parts.specs.Parts.{PartText, IsTwoParts}
use Rattle.as2_parts.specs.Parts as parts
use Rattle.as2_mic.specs.Field.{IsMicField}
use Rattle.as2_mdn.specs.Dispositions.{IsDisposition}
use Rattle.as2_mdn.specs.Dispositions as dispositions
use Rattle.as2_mdn.specs.declared.disposition.DispositionFault.{DispositionFault}
use Rattle.as2_mdn.specs.Receipts.{ReceiptRead, Mic, Missing, Unreadable, Given}
use Rattle.as2_mdn.specs.declared.report_reader.Found.{Found}
use Rattle.as2_mdn.specs.declared.report_reader.Found.TheVariants as found
use Rattle.as2_mdn.specs.declared.report_reader.ReportFault.{ReportFault}
use Rattle.as2_mdn.specs.declared.report_reader.ReportFault.TheVariants as fault

-- the values of the fields of that name, whatever the case of its letters
abbrev pub field_values : List ℕ → List FieldText → List (List ℕ)
field_values name fields = map (λ (field : FieldText). field.1) (fields_named name fields)

-- ---- the head of the second part

-- the media type is that of a notification
abbrev pub is_notification : Media → Bool
is_notification media = media_is_type (codes "message") (codes "disposition-notification") media

-- the encoding leaves the content as it is (RFC 2045, section 6.2)
abbrev pub is_plain_encoding : List ℕ → Bool
is_plain_encoding encoding =
    str_eq_ignore_ascii_case encoding (codes "7bit")
    || str_eq_ignore_ascii_case encoding (codes "8bit")
    || str_eq_ignore_ascii_case encoding (codes "binary")

-- the one value of `Content-Type` is a media type of a notification
pub record IsTyped (texts : List (List ℕ)) : Type 0 where
  pub text : List ℕ
  pub media : Media
  pub one : texts ≡ text ∷ []
  pub is : IsMediaType text media
  pub notification : IsTrue (is_notification media)

-- nothing says how the content is encoded, or one value that leaves it as it is
abbrev pub IsUnencoded : List (List ℕ) → Type 0
IsUnencoded texts = (texts ≡ []) ⊎ ((encoding : List ℕ) × (texts ≡ encoding ∷ []) × IsTrue (is_plain_encoding encoding))

-- the head of a notification
pub record IsNotificationHead (head : List ℕ) : Type 0 where
  pub head_fields : List FieldText
  pub whole : HasFields head head_fields
  pub typed : IsTyped (field_values (codes "content-type") head_fields)
  pub unencoded : IsUnencoded (field_values (codes "content-transfer-encoding") head_fields)

-- ---- the content of the second part

-- The MIC that is given. Without a field it is missing. The one field gives it, where that is a MIC field. Anything
-- else can't be read.
abbrev pub IsMic : List (List ℕ) → Mic → Type 0
IsMic [] mic = mic ≡ Missing
IsMic (text ∷ []) mic =
    ((field : List ℕ × List ℕ) × IsMicField text field × (mic ≡ Given field))
    ⊎ (((field : List ℕ × List ℕ) → ¬ IsMicField text field) × (mic ≡ Unreadable))
IsMic (first ∷ second ∷ others) mic = mic ≡ Unreadable

-- the content tells the receipt
pub record IsNotification (content : List ℕ) (receipt : ReceiptRead) : Type 0 where
  pub content_fields : List FieldText
  pub whole : HasFields content content_fields
  pub one_id : field_values (codes "original-message-id") content_fields ≡ receipt.original_id ∷ []
  pub is_id : IsIdentifier receipt.original_id
  pub disposition_text : List ℕ
  pub one_disposition : field_values (codes "disposition") content_fields ≡ disposition_text ∷ []
  pub is_disposition : IsDisposition disposition_text receipt.disposition
  pub is_mic : IsMic (field_values (codes "received-content-mic") content_fields) receipt.mic

-- ---- the report

-- The body, of that media type, is a report that tells the receipt: of its two parts the second is a notification. The
-- first, which people read, is whatever it is.
pub record IsReport (media : Media) (body : List ℕ) (receipt : ReceiptRead) : Type 0 where
  pub boundary : List ℕ
  pub first : PartText
  pub second : PartText
  pub kind_is : kind_of media ≡ kind.Report
  pub given : boundary_of media ≡ Some boundary
  pub two : IsTwoParts boundary body first second
  pub head : IsNotificationHead second.0
  pub content : IsNotification second.1 receipt

-- ---- the fields of a name

-- there are no values, or one, or more of them
pub data Once : Type 0 where
  Absent : Once
  One : (text : List ℕ) → Once
  Twice : Once

-- which of the three it is
abbrev pub once : List (List ℕ) → Once
once [] = Absent
once (text ∷ []) = One text
once (first ∷ second ∷ others) = Twice

-- the fields of that name in a text
abbrev pub once_in : List ℕ → List ℕ → Once
once_in text name = once (field_values name (fields text))

-- what the code hands out
abbrev pub once_of : Found → Once
once_of found.Absent = Absent
once_of (found.One text) = One text.now
once_of found.Twice = Twice

-- ---- the first fault

-- a MIC and the name of its digest, neither empty
abbrev pub mic_with_both : List ℕ → List ℕ → Option (List ℕ × List ℕ)
mic_with_both mic digest = if length mic == 0 || length digest == 0 then None else Some (mic, digest)

-- those of a value that is cut so at its first comma
abbrev pub mic_cut : Option (List ℕ × List ℕ) → Option (List ℕ × List ℕ)
mic_cut None = None
mic_cut (Some cut) = mic_with_both (trimmed_text cut.0) (trimmed_text cut.1)

-- the MIC and the name that a value has, if it has them
abbrev pub mic_field : List ℕ → Option (List ℕ × List ℕ)
mic_field text = mic_cut (cut_at comma text)

-- what can't be read is told as such
abbrev pub read_mic : Option (List ℕ × List ℕ) → Mic
read_mic None = Unreadable
read_mic (Some field) = Given field

-- the MIC that a field gives
abbrev pub mic_once : Once → Mic
mic_once Absent = Missing
mic_once (One text) = read_mic (mic_field text)
mic_once Twice = Unreadable

-- the receipt of that identifier, that MIC and a disposition that was read
abbrev pub with_disposition : List ℕ → Mic → Result (List ℕ × List ℕ) DispositionFault → Result ReceiptRead ReportFault
with_disposition id mic (Err e) = Err fault.BadDisposition
with_disposition id mic (Ok disposition) = Ok (record { original_id = id; disposition = disposition; mic = mic })

-- the same of the disposition that a field gives
abbrev pub receipt_with_disposition : List ℕ → Mic → Once → Result ReceiptRead ReportFault
receipt_with_disposition id mic (One text) = with_disposition id mic (dispositions.disposition_reading text)
receipt_with_disposition id mic other = Err fault.NoDisposition

-- the same of the identifier that a field gives
abbrev pub identified_receipt : Mic → Once → Once → Result ReceiptRead ReportFault
identified_receipt mic (One id) disposition = if is_identifier id then receipt_with_disposition id mic disposition else Err fault.NoId
identified_receipt mic other disposition = Err fault.NoId

-- there are more values than one
abbrev pub is_twice : Once → Bool
is_twice Twice = true
is_twice other = false

-- the receipt of what the fields give; more than one of either comes before all else
abbrev pub told_receipt : Once → Once → Mic → Result ReceiptRead ReportFault
told_receipt id disposition mic = if is_twice id || is_twice disposition then Err fault.Twice else identified_receipt mic id disposition

-- the receipt that the content of a notification tells
abbrev pub content_reading : List ℕ → Result ReceiptRead ReportFault
content_reading content =
    told_receipt (once_in content (codes "original-message-id")) (once_in content (codes "disposition"))
    (mic_once (once_in content (codes "received-content-mic")))

-- a media type was read, and is that of a notification
abbrev pub is_media_of_notification : Result Media TypeFault → Bool
is_media_of_notification (Ok media) = is_notification media
is_media_of_notification (Err e) = false

-- one value is given, and is the media type of a notification
abbrev pub is_type_of_notification : Once → Bool
is_type_of_notification (One text) = is_media_of_notification (media_types.media_type_reading text)
is_type_of_notification other = false

-- no value is given, or one that leaves the content as it is
abbrev pub leaves_content : Once → Bool
leaves_content Absent = true
leaves_content (One encoding) = is_plain_encoding encoding
leaves_content Twice = false

-- the receipt that a part tells
abbrev pub part_reading : PartText → Result ReceiptRead ReportFault
part_reading part =
    if not (is_type_of_notification (once_in part.0 (codes "content-type"))) then Err fault.NotNotification
    else if not (leaves_content (once_in part.0 (codes "content-transfer-encoding"))) then Err fault.Encoded
    else content_reading part.1

-- the receipt that the second of two parts tells
abbrev pub second_reading : Result (PartText × PartText) PartFault → Result ReceiptRead ReportFault
second_reading (Err e) = Err fault.Parts
second_reading (Ok both) = part_reading both.1

-- the receipt of a body with that boundary
abbrev pub body_reading : Option (List ℕ) → List ℕ → Result ReceiptRead ReportFault
body_reading None body = Err fault.NotReport
body_reading (Some boundary) body = second_reading (parts.parts_reading boundary body)

-- a body of that kind is a report
abbrev pub is_kind_report : Kind → Bool
is_kind_report kind.Report = true
is_kind_report other = false

-- the receipt that a body of that media type tells, or its first fault
abbrev pub receipt_reading : Media → List ℕ → Result ReceiptRead ReportFault
receipt_reading media body = if is_kind_report (kind_of media) then body_reading (boundary_of media) body else Err fault.NotReport
