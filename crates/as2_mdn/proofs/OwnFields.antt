-- The fields of a report that is written.
use Rattle.std.proofs.Common.{◌≡◌, ℕ, ◌<◌, true, false, List, [], ◌∷◌, ◌++◌, length, Option, Some, None, Ok, refl, sym, ap, subst, ◌∙◌, append_assoc, append-nil, arith, inl}
use Rattle.std.specs.Prelude.{codes}
use Rattle.std.specs.List.{list_all}
use Rattle.as2_names.specs.Ascii.{comma}
use Rattle.as2_names.specs.Names.{name_spelling}
use Rattle.as2_names.specs.Identifiers.{IsIdentifier}
use Rattle.as2_names.specs.Trim.{trimmed_text}
use Rattle.as2_media.proofs.Padding.{IsUnpadded, IsSolid, one_ends, front_ends, padded_trimmed}
use Rattle.as2_media.proofs.Spellings as media_found
use Rattle.as2_media.specs.MediaTypes.{IsMediaType}
use Rattle.as2_mic.specs.declared.alg.Alg.{Alg}
use Rattle.as2_mic.specs.declared.alg.Alg.TheVariants.{Md5, Sha1, Sha256}
use Rattle.as2_mic.specs.Algs.{alg_name}
use Rattle.as2_mic.specs.Field.{IsMicField}
use Rattle.as2_mic.specs.Mic.{IsMicText}
use Rattle.as2_parts.specs.Fields.{FieldText, begins_with_blank, fields, is_field_name_byte}
use Rattle.as2_parts.proofs.Laws.{HasNoFeed}
use Rattle.as2_parts.proofs.Folding.{fields_found}
use Rattle.as2_mdn.specs.Dispositions.{IsDisposition}
use Rattle.as2_mdn.specs.Laws.{disposition_of, mic_in_report, HasMicBytes, HasMicText}
use Rattle.as2_mdn.specs.MicBytes.{is_mic_byte, IsOfMicBytes}
use Rattle.as2_mdn.specs.Outcomes.{outcome_text}
use Rattle.as2_mdn.specs.ReportReading.{field_values, IsMic, IsNotification, IsNotificationHead}
use Rattle.as2_mdn.specs.Reports.{mic_with_digest}
use Rattle.as2_mdn.specs.declared.outcome.Outcome.{Outcome}
use Rattle.as2_mdn.specs.declared.outcome.Outcome.TheVariants.{DecryptionFailed, DecompressionFailed, AuthenticationFailed, UnsupportedFormat, UnsupportedMicAlgorithms, Processed}
use Rattle.as2_mdn.specs.declared.report.ReceiptMic.{ReceiptMic}
use Rattle.as2_mdn.specs.declared.report.ReceiptOut.{ReceiptOut}
use Rattle.as2_mdn.proofs.OwnParts.{field_texts, mic_texts, type_line}
use Rattle.as2_mdn.proofs.Reading as disposition_laws
use Rattle.as2_mdn.proofs.Written.{crlf, joined, HaveNoFeed, Names, field_line}
use Rattle.as2_mdn.proofs.WrittenBytes.{identifier_solid, value_trimmed, lacks_of, mic_solid, mic_solid_front}

-- ---- the head of the second part

type_fields : fields (crlf type_line) ≡ (codes "Content-Type", codes "message/disposition-notification") ∷ []
type_fields = field_line (codes "Content-Type") (codes " message/disposition-notification") []
    (record { some = λ e. absurd cc; named = refl; whole = refl }) refl

notification_type : IsMediaType (codes "message/disposition-notification")
    (record { type_name = codes "message"; subtype = codes "disposition-notification"; parameters = [] })
notification_type = media_found.found_by (codes "message/disposition-notification")
    (Ok (record { type_name = codes "message"; subtype = codes "disposition-notification"; parameters = [] })) refl

pub notification_head : IsNotificationHead (crlf type_line)
notification_head = record {
  head_fields = fields (crlf type_line);
  whole = fields_found (crlf type_line);
  typed = record {
    text = codes "message/disposition-notification";
    media = record { type_name = codes "message"; subtype = codes "disposition-notification"; parameters = [] };
    one = ap (field_values (codes "content-type")) type_fields;
    is = notification_type;
    notification = refl;
  };
  unencoded = inl (ap (field_values (codes "content-transfer-encoding")) type_fields);
}

-- ---- the fields of the content

-- the value of a field of which that text stands behind the colon
abbrev raw_value : List ℕ → List ℕ
raw_value raw = trimmed_text (raw ++ 13 ∷ 10 ∷ [])

abbrev mic_fields : Option ReceiptMic → List FieldText
mic_fields None = []
mic_fields (Some mic) = (codes "Received-content-MIC", raw_value (32 ∷ mic_with_digest mic)) ∷ []

abbrev fields_with : ReceiptOut → List FieldText → List FieldText
fields_with out more =
    (codes "Reporting-UA", raw_value (codes " as2-station"))
    ∷ (codes "Final-Recipient", raw_value (codes " rfc822; " ++ name_spelling out.from))
    ∷ (codes "Original-Message-ID", raw_value (32 ∷ out.original_id))
    ∷ (codes "Disposition", raw_value (codes " automatic-action/MDN-sent-automatically; " ++ outcome_text out.outcome))
    ∷ more

names_field : (name raw : List ℕ) → (name ≡ [] → ⊥) → list_all is_field_name_byte name ≡ true → HasNoFeed (name ++ 58 ∷ raw) → Names name raw
names_field name raw some bytes whole = record { some = some; named = bytes; whole = whole }

mic_fields_are : (mic : Option ReceiptMic) → HaveNoFeed (mic_texts mic) → fields (joined (mic_texts mic)) ≡ mic_fields mic
mic_fields_are None f = refl
mic_fields_are (Some mic) f =
    field_line (codes "Received-content-MIC") (32 ∷ mic_with_digest mic) []
    (names_field (codes "Received-content-MIC") (32 ∷ mic_with_digest mic) (λ e. absurd cc) refl f.0) refl

mic_free : (mic : Option ReceiptMic) → begins_with_blank (joined (mic_texts mic)) ≡ false
mic_free None = refl
mic_free (Some mic) = refl

-- no value of a content has an LF
pub record ContentFeedless (out : ReceiptOut) (mic : Option ReceiptMic) : Type 0 where
  pub outcome : HasNoFeed (outcome_text out.outcome)
  pub from : HasNoFeed (name_spelling out.from)
  pub id : HasNoFeed out.original_id
  pub mic_lines : HaveNoFeed (mic_texts mic)

fields_are : (out : ReceiptOut) (mic : Option ReceiptMic) → ContentFeedless out mic
    → fields (joined (field_texts out (mic_texts mic))) ≡ fields_with out (mic_fields mic)
fields_are out mic f =
    let m = mic_texts mic in
    let d = codes " automatic-action/MDN-sent-automatically; " ++ outcome_text out.outcome in
    let r = codes " rfc822; " ++ name_spelling out.from in
    let disposition = codes "Disposition" ++ 58 ∷ d in
    let id = codes "Original-Message-ID" ++ 58 ∷ 32 ∷ out.original_id in
    let recipient = codes "Final-Recipient" ++ 58 ∷ r in
    field_line (codes "Reporting-UA") (codes " as2-station") (recipient ∷ id ∷ disposition ∷ m) (names_field _ _ (λ e. absurd cc) refl refl) refl
    ∙ ap (λ (fs : List FieldText). (codes "Reporting-UA", raw_value (codes " as2-station")) ∷ fs) (
    field_line (codes "Final-Recipient") r (id ∷ disposition ∷ m) (names_field _ _ (λ e. absurd cc) refl f.from) refl
    ∙ ap (λ (fs : List FieldText). (codes "Final-Recipient", raw_value r) ∷ fs) (
    field_line (codes "Original-Message-ID") (32 ∷ out.original_id) (disposition ∷ m) (names_field _ _ (λ e. absurd cc) refl f.id) refl
    ∙ ap (λ (fs : List FieldText). (codes "Original-Message-ID", raw_value (32 ∷ out.original_id)) ∷ fs) (
    field_line (codes "Disposition") d m (names_field _ _ (λ e. absurd cc) refl f.outcome) (mic_free mic)
    ∙ ap (λ (fs : List FieldText). (codes "Disposition", raw_value d) ∷ fs) (mic_fields_are mic f.mic_lines))))

-- ---- the disposition

disposition_is : (outcome : Outcome)
    → IsDisposition (raw_value (codes " automatic-action/MDN-sent-automatically; " ++ outcome_text outcome)) (disposition_of outcome)
disposition_is DecryptionFailed = disposition_laws.found_by _ (Ok (disposition_of DecryptionFailed)) refl
disposition_is DecompressionFailed = disposition_laws.found_by _ (Ok (disposition_of DecompressionFailed)) refl
disposition_is AuthenticationFailed = disposition_laws.found_by _ (Ok (disposition_of AuthenticationFailed)) refl
disposition_is UnsupportedFormat = disposition_laws.found_by _ (Ok (disposition_of UnsupportedFormat)) refl
disposition_is UnsupportedMicAlgorithms = disposition_laws.found_by _ (Ok (disposition_of UnsupportedMicAlgorithms)) refl
disposition_is Processed = disposition_laws.found_by _ (Ok (disposition_of Processed)) refl

-- ---- the MIC

name_ends : (digest : Alg) → IsUnpadded (codes ", " ++ alg_name digest)
name_ends Md5 = front_ends (codes ", md") (codes "5") (one_ends 53 refl)
name_ends Sha1 = front_ends (codes ", sha") (codes "1") (one_ends 49 refl)
name_ends Sha256 = front_ends (codes ", sha-25") (codes "6") (one_ends 54 refl)

name_trimmed : (digest : Alg) → alg_name digest ≡ trimmed_text (32 ∷ alg_name digest)
name_trimmed Md5 = refl
name_trimmed Sha1 = refl
name_trimmed Sha256 = refl

name_some : (digest : Alg) → alg_name digest ≡ [] → ⊥
name_some Md5 e = absurd cc
name_some Sha1 e = absurd cc
name_some Sha256 e = absurd cc

text_some : (text : List ℕ) → 0 < length text → text ≡ [] → ⊥
text_some [] some e = absurd (omega (arith, some))
text_some (b ∷ rest) some e = absurd cc

solid_trimmed : (text : List ℕ) → IsSolid text → text ≡ trimmed_text text
solid_trimmed text s = sym (padded_trimmed text text (record { front = []; back = []; whole = sym (append-nil text); blank_front = refl; blank_back = refl }) s)

mic_read_back : (mic : ReceiptMic) → IsMicText mic.text → IsOfMicBytes mic.text
    → raw_value (32 ∷ mic_with_digest mic) ≡ mic.text ++ (codes ", " ++ alg_name mic.digest)
mic_read_back mic t b =
    let text = mic.text ++ (codes ", " ++ alg_name mic.digest) in
    ap (λ (x : List ℕ). raw_value (32 ∷ x)) (append_assoc mic.text (codes ", ") (alg_name mic.digest))
    ∙ value_trimmed text (mic_solid_front mic.text (codes ", " ++ alg_name mic.digest) b t.some (name_ends mic.digest))

mic_is : (mic : ReceiptMic) → IsMicText mic.text → IsOfMicBytes mic.text
    → IsMicField (mic.text ++ (codes ", " ++ alg_name mic.digest)) (mic.text, alg_name mic.digest)
mic_is mic t b = record {
  before = mic.text;
  behind = 32 ∷ alg_name mic.digest;
  cut = record { whole = refl; first = lacks_of is_mic_byte comma mic.text refl b };
  mic = solid_trimmed mic.text (mic_solid mic.text b t.some);
  digest = name_trimmed mic.digest;
  has_mic = text_some mic.text t.some;
  has_digest = name_some mic.digest;
}

mic_given : (out : ReceiptOut) (mic : Option ReceiptMic) → HasMicText mic → HasMicBytes mic
    → IsMic (field_values (codes "received-content-mic") (fields_with out (mic_fields mic))) (mic_in_report mic)
mic_given out None h b = refl
mic_given out (Some mic) h b =
    inl (
      (mic.text, alg_name mic.digest),
      subst (λ (x : List ℕ). IsMicField x (mic.text, alg_name mic.digest)) (sym (mic_read_back mic h b)) (mic_is mic h b),
      refl,
    )

-- ---- the content

one_id : (out : ReceiptOut) (mic : Option ReceiptMic)
    → field_values (codes "original-message-id") (fields_with out (mic_fields mic)) ≡ raw_value (32 ∷ out.original_id) ∷ []
one_id out None = refl
one_id out (Some mic) = refl

one_disposition : (out : ReceiptOut) (mic : Option ReceiptMic)
    → field_values (codes "disposition") (fields_with out (mic_fields mic)) ≡ raw_value
    (codes " automatic-action/MDN-sent-automatically; " ++ outcome_text out.outcome) ∷ []
one_disposition out None = refl
one_disposition out (Some mic) = refl

pub notification_content : (out : ReceiptOut) (mic : Option ReceiptMic) → IsIdentifier out.original_id → HasMicText mic → HasMicBytes mic
    → ContentFeedless out mic
    → IsNotification (joined (field_texts out (mic_texts mic)))
    (record { original_id = out.original_id; disposition = disposition_of out.outcome; mic = mic_in_report mic })
notification_content out mic x h b f =
    let content = joined (field_texts out (mic_texts mic)) in
    let are : fields content ≡ fields_with out (mic_fields mic) = fields_are out mic f in
    record {
      content_fields = fields content;
      whole = fields_found content;
      one_id = ap (field_values (codes "original-message-id")) are ∙ one_id out mic
          ∙ ap (λ (id : List ℕ). id ∷ []) (value_trimmed out.original_id (identifier_solid out.original_id x));
      is_id = x;
      disposition_text = raw_value (codes " automatic-action/MDN-sent-automatically; " ++ outcome_text out.outcome);
      one_disposition = ap (field_values (codes "disposition")) are ∙ one_disposition out mic;
      is_disposition = disposition_is out.outcome;
      is_mic = subst (λ (fs : List FieldText). IsMic (field_values (codes "received-content-mic") fs) (mic_in_report mic)) (sym are) (mic_given out mic h b);
    }
