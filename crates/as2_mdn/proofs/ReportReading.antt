-- The receipt that is read is the one that the report tells.
use Rattle.std.proofs.Common.{◌≡◌, ◌==◌, ◌&&◌, ◌||◌, ℕ, true, false, cond, Bool, List, [], ◌∷◌, length, Option, Some, None, Result, Ok, Err, refl, sym, ap, subst, ◌∙◌, arith, inl, inr}
use Rattle.std.specs.Borrow.{Bor}
use Rattle.std.specs.Prelude.{IfOk, not, codes, nat_le}
use Rattle.std.specs.List.{list_all}
use Rattle.std.specs.Str.{bytes_eq}
use Rattle.std.proofs.lemmas.Bool.{cases_Bool, and_parts, eqb-true}
use Rattle.std.proofs.lemmas.Bool.Decides.{nat_tests}
use Rattle.std.proofs.lemmas.List.{nil_from_length}
use Rattle.std.proofs.lemmas.Slice.Eq.{bytes_eq-Decides}
use Rattle.as2_names.specs.Ascii.{comma, is_printable}
use Rattle.as2_names.specs.Blanks.{without_blanks}
use Rattle.as2_names.specs.Cuts.{cut_at}
use Rattle.as2_names.specs.Identifiers.{IsIdentifier, is_identifier, without_brackets}
use Rattle.as2_names.specs.Trim.{trimmed_text}
use Rattle.as2_names.proofs.Cuts.{cut_some, cut_found}
use Rattle.as2_media.specs.MediaTypes.{Media, IsMediaType}
use Rattle.as2_media.specs.MediaTypes as media_types
use Rattle.as2_media.specs.declared.fault.TypeFault.{TypeFault}
use Rattle.as2_media.specs.declared.kind.Kind.{Kind}
use Rattle.as2_media.specs.declared.kind.Kind.TheVariants as kind
use Rattle.as2_media.specs.Kinds.{kind_of, boundary_of}
use Rattle.as2_media.proofs.Readings as media_again
use Rattle.as2_media.proofs.Spellings as media_found
use Rattle.as2_parts.specs.declared.parts.PartFault.{PartFault}
use Rattle.as2_parts.specs.Fields.{FieldText, fields}
use Rattle.as2_parts.specs.Parts.{PartText, IsTwoParts}
use Rattle.as2_parts.specs.Parts as parts
use Rattle.as2_parts.proofs.TwoParts as two_parts
use Rattle.as2_parts.proofs.Folding.{fields_found, fields_only}
use Rattle.as2_mic.specs.Field.{IsMicField}
use Rattle.as2_mdn.specs.Dispositions as dispositions
use Rattle.as2_mdn.specs.Dispositions.{IsDisposition}
use Rattle.as2_mdn.specs.declared.disposition.DispositionFault.{DispositionFault}
use Rattle.as2_mdn.specs.declared.report_reader.Found.{Found}
use Rattle.as2_mdn.specs.declared.report_reader.Found.TheVariants as found_in
use Rattle.as2_mdn.specs.declared.report_reader.ReportFault.{ReportFault}
use Rattle.as2_mdn.specs.declared.report_reader.ReportFault.TheVariants as fault
use Rattle.as2_mdn.specs.Receipts.{ReceiptRead, Mic, Unreadable, Given}
use Rattle.as2_mdn.specs.ReportReading.{field_values, IsTyped, IsUnencoded, IsNotificationHead, IsMic, IsNotification, IsReport, Once, Absent, One, Twice, once, once_in, mic_with_both, mic_cut, mic_field, read_mic, mic_once, once_of, with_disposition, receipt_with_disposition, identified_receipt, is_twice, told_receipt, content_reading, is_media_of_notification, is_type_of_notification, leaves_content, part_reading, second_reading, body_reading, is_kind_report, receipt_reading}
use Rattle.as2_mdn.proofs.Reading as disposition_laws

-- ---- which way a test went

unless : {A : Type 0} (t : Bool) (f : ReportFault) (rest : Result A ReportFault) (r : A) → cond t (Err f) rest ≡ Ok r → (t ≡ false) × (rest ≡ Ok r)
unless true f rest r h = absurd cc
unless false f rest r h = (refl, h)

when : {A : Type 0} (t : Bool) (f : ReportFault) (rest : Result A ReportFault) (r : A) → cond t rest (Err f) ≡ Ok r → (t ≡ true) × (rest ≡ Ok r)
when true f rest r h = (refl, h)
when false f rest r h = absurd cc

is_so : (t : Bool) → not t ≡ false → t ≡ true
is_so true h = refl
is_so false h = absurd cc

neither : (s t : Bool) → (s || t) ≡ false → (s ≡ false) × (t ≡ false)
neither true t h = absurd cc
neither false t h = (refl, h)

-- ---- the MIC

some_bytes : (text : List ℕ) → (text ≡ [] → ⊥) → (length text == 0) ≡ false
some_bytes text some =
    elim (cases_Bool (length text == 0)) [
      | inl none ↦ absurd (some (nil_from_length text (eqb-true (length text) 0 none)))
      | inr other ↦ other
    ]

no_bytes : (text : List ℕ) → (length text == 0) ≡ false → text ≡ [] → ⊥
no_bytes text h e = absurd (let none : (length text == 0) ≡ true = ap (λ (x : List ℕ). length x == 0) e in let no : true ≡ false = sym none ∙ h in cc)

pub mic_again : (text : List ℕ) (field : List ℕ × List ℕ) → IsMicField text field → mic_field text ≡ Some field
mic_again text field f =
    let mic_some : (length (trimmed_text f.before) == 0) ≡ false = some_bytes (trimmed_text f.before) (λ e. f.has_mic (f.mic ∙ e)) in
    let digest_some : (length (trimmed_text f.behind) == 0) ≡ false = some_bytes (trimmed_text f.behind) (λ e. f.has_digest (f.digest ∙ e)) in
    rw (cut_some comma text f.before f.behind f.cut, mic_some, digest_some) (λ i. Some ((sym f.mic) i, (sym f.digest) i))

both_found : (mic digest : List ℕ) (field : List ℕ × List ℕ) → mic_with_both mic digest ≡ Some field → ((length mic == 0) ≡ false)
    × ((length digest == 0) ≡ false) × ((mic, digest) ≡ field)
both_found mic digest field h =
    elim (cases_Bool (length mic == 0 || length digest == 0)) [
      | inl none ↦
          let no : None ≡ Some field = sym (ap (λ t. cond t None (Some (mic, digest))) none) ∙ h in
          absurd cc
      | inr some ↦
          let is : Some (mic, digest) ≡ Some field = sym (ap (λ t. cond t None (Some (mic, digest))) some) ∙ h in
          let n = neither (length mic == 0) (length digest == 0) some in
          (n.0, n.1, cc)
    ]

mic_cut_found : (text : List ℕ) (cut : Option (List ℕ × List ℕ)) (field : List ℕ × List ℕ) → cut_at comma text ≡ cut → mic_cut cut ≡ Some field
    → IsMicField text field
mic_cut_found text None field e h = absurd cc
mic_cut_found text (Some cut) field e h =
    let b = both_found (trimmed_text cut.0) (trimmed_text cut.1) field h in
    subst (IsMicField text) b.2 (record {
      before = cut.0;
      behind = cut.1;
      cut = cut_found comma text cut e;
      mic = refl;
      digest = refl;
      has_mic = no_bytes (trimmed_text cut.0) b.0;
      has_digest = no_bytes (trimmed_text cut.1) b.1;
    })

pub mic_found : (text : List ℕ) (field : List ℕ × List ℕ) → mic_field text ≡ Some field → IsMicField text field
mic_found text field h = mic_cut_found text (cut_at comma text) field refl h

mic_by : (text : List ℕ) (found : Option (List ℕ × List ℕ)) → mic_field text ≡ found → IsMic (text ∷ []) (read_mic found)
mic_by text (Some field) e = inl (field, mic_found text field e, refl)
mic_by text None e = inr (λ field f. absurd (let same : None ≡ Some field = sym e ∙ mic_again text field f in cc), refl)

mic_told : (texts : List (List ℕ)) → IsMic texts (mic_once (once texts))
mic_told [] = refl
mic_told (text ∷ []) = mic_by text (mic_field text) refl
mic_told (first ∷ second ∷ others) = refl

none_read : (text : List ℕ) (found : Option (List ℕ × List ℕ)) → mic_field text ≡ found → ((field : List ℕ × List ℕ) → IsMicField text field → ⊥)
    → read_mic found ≡ Unreadable
none_read text (Some field) e none = absurd (none field (mic_found text field e))
none_read text None e none = refl

mic_tells : (texts : List (List ℕ)) (mic : Mic) → IsMic texts mic → mic_once (once texts) ≡ mic
mic_tells [] mic h = sym h
mic_tells (text ∷ []) mic h =
    elim h [
      | inl given ↦ rw (mic_again text given.0 given.1) (sym given.2)
      | inr other ↦ none_read text (mic_field text) refl other.0 ∙ sym other.1
    ]
mic_tells (first ∷ second ∷ others) mic h = sym h

pub given_by : (mic : Found) (value : Bor (List ℕ)) (field : List ℕ × List ℕ) → mic ≡ found_in.One value → IsMicField value.now field
    → Given field ≡ mic_once (once_of mic)
given_by mic value field e f = rw (e, mic_again value.now field f) refl

pub unreadable_by : (mic : Found) (value : Bor (List ℕ)) → mic ≡ found_in.One value → ((field : List ℕ × List ℕ) → IsMicField value.now field → ⊥)
    → Unreadable ≡ mic_once (once_of mic)
unreadable_by mic value e none = sym (ap (λ (m : Found). mic_once (once_of m)) e ∙ none_read value.now (mic_field value.now) refl none)

-- ---- the identifier

identifier_is : (text : List ℕ) → is_identifier text ≡ true → IsIdentifier text
identifier_is text h =
    let bare = bytes_eq (without_blanks text) text in
    let some = not (length (without_brackets text) == 0) in
    let short = nat_le (length (without_brackets text)) 998 in
    let a = and_parts (bare && some && short) (list_all is_printable text) h in
    let b = and_parts (bare && some) short a.0 in
    let c = and_parts bare some b.0 in
    let is_some : not (length (without_brackets text) == 0) ≡ true = c.1 in
    let is_short : nat_le (length (without_brackets text)) 998 ≡ true = b.1 in
    record {
      bare = (bytes_eq-Decides (without_blanks text) text).0 c.0;
      printable = a.1;
      some = grind (arith, nat_tests);
      short = grind (arith, nat_tests);
    }

pub is_identifier_of : (text : List ℕ) → IsIdentifier text → is_identifier text ≡ true
is_identifier_of text x =
    let bare : bytes_eq (without_blanks text) text ≡ true = (bytes_eq-Decides (without_blanks text) text).1 x.bare in
    let some : (length (without_brackets text) == 0) ≡ false = grind (arith, nat_tests) in
    let short : nat_le (length (without_brackets text)) 998 ≡ true = grind (arith, nat_tests) in
    rw (bare, some, short) x.printable

-- ---- the head

typed_again : (texts : List (List ℕ)) → IsTyped texts → is_type_of_notification (once texts) ≡ true
typed_again texts t = rw (t.one, media_again.again t.text t.media t.is) t.notification

media_typed : (text : List ℕ) (r : Result Media TypeFault) → media_types.media_type_reading text ≡ r → is_media_of_notification r ≡ true → IsTyped (text ∷ [])
media_typed text (Ok media) e h = record { text = text; media = media; one = refl; is = media_found.found_by text (Ok media) (sym e); notification = h }
media_typed text (Err f) e h = absurd cc

typed_found : (texts : List (List ℕ)) → is_type_of_notification (once texts) ≡ true → IsTyped texts
typed_found [] h = absurd cc
typed_found (text ∷ []) h = media_typed text (media_types.media_type_reading text) refl h
typed_found (first ∷ second ∷ others) h = absurd cc

unencoded_again : (texts : List (List ℕ)) → IsUnencoded texts → leaves_content (once texts) ≡ true
unencoded_again texts u =
    elim u [
      | inl none ↦ rw none refl
      | inr one ↦ rw one.1 one.2
    ]

unencoded_found : (texts : List (List ℕ)) → leaves_content (once texts) ≡ true → IsUnencoded texts
unencoded_found [] h = inl refl
unencoded_found (text ∷ []) h = inr (text, refl, h)
unencoded_found (first ∷ second ∷ others) h = absurd cc

-- ---- what stands in the report is read

content_again : (content : List ℕ) (receipt : ReceiptRead) → IsNotification content receipt → content_reading content ≡ Ok receipt
content_again content receipt n =
    rw (
      fields_only content n.content_fields n.whole,
      n.one_id,
      n.one_disposition,
      mic_tells _ receipt.mic n.is_mic,
      is_identifier_of receipt.original_id n.is_id,
      disposition_laws.again n.disposition_text receipt.disposition n.is_disposition,
    ) refl

part_again : (part : PartText) (receipt : ReceiptRead) → IsNotificationHead part.0 → IsNotification part.1 receipt → part_reading part ≡ Ok receipt
part_again part receipt h n =
    let same : fields part.0 ≡ h.head_fields = fields_only part.0 h.head_fields h.whole in
    let typed : is_type_of_notification (once_in part.0 (codes "content-type")) ≡ true =
    ap (λ (fs : List FieldText). is_type_of_notification (once (field_values (codes "content-type") fs))) same ∙ typed_again _ h.typed in
    let plain : leaves_content (once_in part.0 (codes "content-transfer-encoding")) ≡ true =
    ap (λ (fs : List FieldText). leaves_content (once (field_values (codes "content-transfer-encoding") fs))) same ∙ unencoded_again _ h.unencoded in
    rw (typed, plain) (content_again part.1 receipt n)

pub again : (media : Media) (body : List ℕ) (receipt : ReceiptRead) → IsReport media body receipt → receipt_reading media body ≡ Ok receipt
again media body receipt r =
    rw (r.kind_is, r.given, two_parts.again r.boundary body r.first r.second r.two) (part_again r.second receipt r.head r.content)

-- ---- what is read stands in the report

-- there is one value, which is the first of them
one_value : (texts : List (List ℕ)) (text : List ℕ) → once texts ≡ One text → texts ≡ text ∷ []
one_value [] text h = absurd cc
one_value (first ∷ []) text h = let same : first ≡ text = cc in ap (λ (x : List ℕ). x ∷ []) same
one_value (first ∷ second ∷ others) text h = absurd cc

-- what a content says that tells a receipt
record ReceiptSaid (id disposition : Once) (mic : Mic) (receipt : ReceiptRead) : Type 0 where
  pub one_id : id ≡ One receipt.original_id
  pub is_id : is_identifier receipt.original_id ≡ true
  pub text : List ℕ
  pub one_disposition : disposition ≡ One text
  pub read : dispositions.disposition_reading text ≡ Ok receipt.disposition
  pub mic_is : receipt.mic ≡ mic

says_read : (id text : List ℕ) (mic : Mic) (receipt : ReceiptRead) (r : Result (List ℕ × List ℕ) DispositionFault) → is_identifier id ≡ true
    → dispositions.disposition_reading text ≡ r → with_disposition id mic r ≡ Ok receipt → ReceiptSaid (One id) (One text) mic receipt
says_read id text mic receipt (Ok d) good e h =
    let same : record { original_id = id; disposition = d; mic = mic } ≡ receipt = cc in
    subst (ReceiptSaid (One id) (One text) mic) same (record { one_id = refl; is_id = good; text = text; one_disposition = refl; read = e; mic_is = refl })
says_read id text mic receipt (Err f) good e h = absurd cc

says_disposed : (id : List ℕ) (disposition : Once) (mic : Mic) (receipt : ReceiptRead) → is_identifier id ≡ true
    → receipt_with_disposition id mic disposition ≡ Ok receipt → ReceiptSaid (One id) disposition mic receipt
says_disposed id Absent mic receipt good h = absurd cc
says_disposed id (One text) mic receipt good h = says_read id text mic receipt (dispositions.disposition_reading text) good refl h
says_disposed id Twice mic receipt good h = absurd cc

says_identified : (id disposition : Once) (mic : Mic) (receipt : ReceiptRead) → identified_receipt mic id disposition ≡ Ok receipt
    → ReceiptSaid id disposition mic receipt
says_identified Absent disposition mic receipt h = absurd cc
says_identified (One id) disposition mic receipt h =
    let w = when (is_identifier id) fault.NoId (receipt_with_disposition id mic disposition) receipt h in
    says_disposed id disposition mic receipt w.0 w.1
says_identified Twice disposition mic receipt h = absurd cc

receipt_said : (id disposition : Once) (mic : Mic) (receipt : ReceiptRead) → told_receipt id disposition mic ≡ Ok receipt
    → ReceiptSaid id disposition mic receipt
receipt_said id disposition mic receipt h =
    says_identified id disposition mic receipt (unless (is_twice id || is_twice disposition) fault.Twice (identified_receipt mic id disposition) receipt h).1

content_found : (content : List ℕ) (receipt : ReceiptRead) → content_reading content ≡ Ok receipt → IsNotification content receipt
content_found content receipt h =
    let s = receipt_said (once_in content (codes "original-message-id")) (once_in content (codes "disposition"))
    (mic_once (once_in content (codes "received-content-mic"))) receipt h in
    record {
      content_fields = fields content;
      whole = fields_found content;
      one_id = one_value _ receipt.original_id s.one_id;
      is_id = identifier_is receipt.original_id s.is_id;
      disposition_text = s.text;
      one_disposition = one_value _ s.text s.one_disposition;
      is_disposition = disposition_laws.found_by s.text (Ok receipt.disposition) (sym s.read);
      is_mic = subst (IsMic (field_values (codes "received-content-mic") (fields content))) (sym s.mic_is)
          (mic_told (field_values (codes "received-content-mic") (fields content)));
    }

record IsToldBy (part : PartText) (receipt : ReceiptRead) : Type 0 where
  pub head : IsNotificationHead part.0
  pub content : IsNotification part.1 receipt

part_found : (part : PartText) (receipt : ReceiptRead) → part_reading part ≡ Ok receipt → IsToldBy part receipt
part_found part receipt h =
    let plain = leaves_content (once_in part.0 (codes "content-transfer-encoding")) in
    let typed = is_type_of_notification (once_in part.0 (codes "content-type")) in
    let a = unless (not typed) fault.NotNotification (cond (not plain) (Err fault.Encoded) (content_reading part.1)) receipt h in
    let b = unless (not plain) fault.Encoded (content_reading part.1) receipt a.1 in
    record {
      head = record {
        head_fields = fields part.0;
        whole = fields_found part.0;
        typed = typed_found _ (is_so typed a.0);
        unencoded = unencoded_found _ (is_so plain b.0);
      };
      content = content_found part.1 receipt b.1;
    }

kind_is_report : (k : Kind) → is_kind_report k ≡ true → k ≡ kind.Report
kind_is_report kind.Document h = absurd cc
kind_is_report kind.Enveloped h = absurd cc
kind_is_report kind.Compressed h = absurd cc
kind_is_report kind.Signed h = absurd cc
kind_is_report kind.Report h = refl

two_found : (media : Media) (body : List ℕ) (receipt : ReceiptRead) (boundary : List ℕ) (r : Result (PartText × PartText) PartFault)
    → kind_of media ≡ kind.Report → boundary_of media ≡ Some boundary → parts.parts_reading boundary body ≡ r → second_reading r ≡ Ok receipt
    → IsReport media body receipt
two_found media body receipt boundary (Err f) k b e h = absurd cc
two_found media body receipt boundary (Ok both) k b e h =
    let p = part_found both.1 receipt h in
    record {
      boundary = boundary;
      first = both.0;
      second = both.1;
      kind_is = k;
      given = b;
      two = two_parts.found boundary body both.0 both.1 e;
      head = p.head;
      content = p.content;
    }

body_found : (media : Media) (body : List ℕ) (receipt : ReceiptRead) (b : Option (List ℕ)) → kind_of media ≡ kind.Report → boundary_of media ≡ b
    → body_reading b body ≡ Ok receipt → IsReport media body receipt
body_found media body receipt None k e h = absurd cc
body_found media body receipt (Some boundary) k e h = two_found media body receipt boundary (parts.parts_reading boundary body) k e refl h

pub found : (media : Media) (body : List ℕ) (receipt : ReceiptRead) → receipt_reading media body ≡ Ok receipt → IsReport media body receipt
found media body receipt h =
    let w = when (is_kind_report (kind_of media)) fault.NotReport (body_reading (boundary_of media) body) receipt h in
    body_found media body receipt (boundary_of media) (kind_is_report (kind_of media) w.0) refl w.1

pub found_by : (media : Media) (body : List ℕ) (r : Result ReceiptRead ReportFault) → r ≡ receipt_reading media body → IfOk r (IsReport media body)
found_by media body (Ok receipt) e = found media body receipt (sym e)
found_by media body (Err f) e = tt
