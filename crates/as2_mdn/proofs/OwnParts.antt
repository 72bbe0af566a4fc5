-- The two parts of a report that is written.
use Rattle.std.proofs.Common.{◌≡◌, ℕ, true, List, [], ◌∷◌, ◌++◌, map, Option, Some, None, refl, sym, ap, ◌∙◌, append-nil, arith, inr}
use Rattle.std.specs.Prelude.{not, decimal, codes}
use Rattle.std.specs.List.{list_all, concat}
use Rattle.std.proofs.lemmas.List.{map-append}
use Rattle.std.proofs.lemmas.List.Elements.{All-nil}
use Rattle.as2_names.specs.Names.{name_spelling}
use Rattle.as2_mic.specs.Algs.{alg_name}
use Rattle.as2_parts.specs.Lines.{lines, without_line_end, IsDelimiter, IsClosing}
use Rattle.as2_parts.specs.Parts.{PartText, IsTwoParts, part_in, part_of, cut_at_empty_line}
use Rattle.as2_parts.proofs.Laws.{HasNoFeed}
use Rattle.as2_mdn.specs.declared.report.ReceiptMic.{ReceiptMic}
use Rattle.as2_mdn.specs.declared.report.ReceiptOut.{ReceiptOut}
use Rattle.as2_mdn.specs.Outcomes.{outcome_text}
use Rattle.as2_mdn.specs.Reports.{boundary_text, mic_with_digest, mic_line, receipt_text}
use Rattle.as2_mdn.proofs.Written.{Joint, leaf, both, bytes, same_bytes, crlf, joined, HaveNoFeed, no_feed_append, lines_of_joined, concat_crlf, joined_push, line_end_off, begins_with_hyphen, no_marks}

-- ---- the lines, without their ends

abbrev pub mic_texts : Option ReceiptMic → List (List ℕ)
mic_texts None = []
mic_texts (Some mic) = (codes "Received-content-MIC: " ++ mic_with_digest mic) ∷ []

abbrev pub field_texts : ReceiptOut → List (List ℕ) → List (List ℕ)
field_texts out more =
    codes "Reporting-UA: as2-station"
    ∷ (codes "Final-Recipient: rfc822; " ++ name_spelling out.from)
    ∷ (codes "Original-Message-ID: " ++ out.original_id)
    ∷ (codes "Disposition: automatic-action/MDN-sent-automatically; " ++ outcome_text out.outcome)
    ∷ more

abbrev pub type_line : List ℕ
type_line = codes "Content-Type: message/disposition-notification"

abbrev first_texts : ReceiptOut → List (List ℕ)
first_texts out =
    codes "Content-Type: text/plain"
    ∷ []
    ∷ (codes "Receipt " ++ decimal out.number ++ codes " for the message named below.")
    ∷ (codes "Outcome: " ++ outcome_text out.outcome)
    ∷ []
    ∷ []

abbrev notification_texts : ReceiptOut → List (List ℕ) → List (List ℕ)
notification_texts out more = type_line ∷ [] ∷ field_texts out more

-- with the line end that belongs to the closing line
abbrev second_texts : ReceiptOut → List (List ℕ) → List (List ℕ)
second_texts out more = notification_texts out more ++ [] ∷ []

abbrev mark : ℕ → List ℕ
mark n = codes "--" ++ boundary_text n

abbrev closing : ℕ → List ℕ
closing n = codes "--" ++ boundary_text n ++ codes "--"

abbrev texts_with : ReceiptOut → List (List ℕ) → List (List ℕ)
texts_with out more = mark out.number ∷ (first_texts out ++ mark out.number ∷ (second_texts out more ++ closing out.number ∷ []))

-- ---- the report is these lines

abbrev line_joint : List ℕ → Joint → Joint
line_joint start value = both (both (leaf start) value) (leaf (codes "\r\n"))

abbrev boundary_joint : ReceiptOut → Joint
boundary_joint out = both (leaf (codes "as2-mdn-")) (leaf (decimal out.number))

abbrev explanation_joint : ReceiptOut → Joint
explanation_joint out =
    both (both (both (both (both (leaf (codes "Content-Type: text/plain\r\n")) (leaf (codes "\r\n"))) (leaf (codes "Receipt ")))
    (leaf (decimal out.number))) (leaf (codes " for the message named below.\r\n")))
    (line_joint (codes "Outcome: ") (leaf (outcome_text out.outcome)))

abbrev notification_joint : ReceiptOut → Joint → Joint
notification_joint out more =
    both (both (both (both (both (both (leaf (codes "Content-Type: message/disposition-notification\r\n")) (leaf (codes "\r\n")))
    (line_joint (codes "Reporting-UA: ") (leaf (codes "as2-station"))))
    (line_joint (codes "Final-Recipient: rfc822; ") (leaf (name_spelling out.from))))
    (line_joint (codes "Original-Message-ID: ") (leaf out.original_id)))
    (line_joint (codes "Disposition: automatic-action/MDN-sent-automatically; ") (leaf (outcome_text out.outcome))))
    more

abbrev report_joint : ReceiptOut → Joint → Joint
report_joint out more =
    both (both (both (both (both (both (line_joint (codes "--") (boundary_joint out)) (explanation_joint out))
    (line_joint (codes "\r\n--") (boundary_joint out)))
    (notification_joint out more)) (leaf (codes "\r\n--"))) (boundary_joint out)) (leaf (codes "--\r\n"))

abbrev mic_joint : ReceiptMic → Joint
mic_joint mic = line_joint (codes "Received-content-MIC: ") (both (both (leaf mic.text) (leaf (codes ", "))) (leaf (alg_name mic.digest)))

-- the lines, put together
abbrev of_lines : List Joint → Joint
of_lines [] = leaf []
of_lines (text ∷ texts) = both text (both (leaf (13 ∷ 10 ∷ [])) (of_lines texts))

abbrev lines_joint : ReceiptOut → List Joint → Joint
lines_joint out more =
    of_lines (both (leaf (codes "--")) (boundary_joint out)
    ∷ leaf (codes "Content-Type: text/plain")
    ∷ leaf []
    ∷ both (both (leaf (codes "Receipt ")) (leaf (decimal out.number))) (leaf (codes " for the message named below."))
    ∷ both (leaf (codes "Outcome: ")) (leaf (outcome_text out.outcome))
    ∷ leaf []
    ∷ both (leaf (codes "--")) (boundary_joint out)
    ∷ leaf type_line
    ∷ leaf []
    ∷ leaf (codes "Reporting-UA: as2-station")
    ∷ both (leaf (codes "Final-Recipient: rfc822; ")) (leaf (name_spelling out.from))
    ∷ both (leaf (codes "Original-Message-ID: ")) (leaf out.original_id)
    ∷ both (leaf (codes "Disposition: automatic-action/MDN-sent-automatically; ")) (leaf (outcome_text out.outcome))
    ∷ (more ++ leaf [] ∷ both (both (leaf (codes "--")) (boundary_joint out)) (leaf (codes "--")) ∷ []))

abbrev mic_line_joint : ReceiptMic → Joint
mic_line_joint mic = both (leaf (codes "Received-content-MIC: ")) (both (both (leaf mic.text) (leaf (codes ", "))) (leaf (alg_name mic.digest)))

abbrev report_with : ReceiptOut → List ℕ → List ℕ
report_with out more = bytes (report_joint out (leaf more))

with_is : (out : ReceiptOut) (mic : Option ReceiptMic) → report_with out (mic_line mic) ≡ joined (texts_with out (mic_texts mic))
with_is out None = same_bytes (report_joint out (leaf [])) (lines_joint out []) refl
with_is out (Some mic) = same_bytes (report_joint out (mic_joint mic)) (lines_joint out (mic_line_joint mic ∷ [])) refl

text_is : (out : ReceiptOut) → receipt_text out ≡ joined (texts_with out (mic_texts out.mic))
text_is out = with_is out out.mic

-- ---- its lines

-- no value has an LF
pub record Feedless (out : ReceiptOut) : Type 0 where
  pub digits : HasNoFeed (decimal out.number)
  pub outcome : HasNoFeed (outcome_text out.outcome)
  pub from : HasNoFeed (name_spelling out.from)
  pub id : HasNoFeed out.original_id
  pub mic : HaveNoFeed (mic_texts out.mic)

have_append : (front back : List (List ℕ)) → HaveNoFeed front → HaveNoFeed back → HaveNoFeed (front ++ back)
have_append [] back f b = b
have_append (text ∷ front) back f b = (f.0, have_append front back f.1 b)

first_feedless : (out : ReceiptOut) → Feedless out → HaveNoFeed (first_texts out)
first_feedless out f =
    (refl, (refl, (no_feed_append (decimal out.number) (codes " for the message named below.") f.digits refl, (f.outcome, (refl, tt)))))

pub notification_feedless : (out : ReceiptOut) → Feedless out → HaveNoFeed (notification_texts out (mic_texts out.mic))
notification_feedless out f = (refl, (refl, (refl, (f.from, (f.id, (f.outcome, f.mic))))))

texts_feedless : (out : ReceiptOut) → Feedless out → HaveNoFeed (texts_with out (mic_texts out.mic))
texts_feedless out f =
    let end : HaveNoFeed (closing out.number ∷ []) = (no_feed_append (decimal out.number) (codes "--") f.digits refl, tt) in
    let second : HaveNoFeed (second_texts out (mic_texts out.mic)) =
    have_append (notification_texts out (mic_texts out.mic)) ([] ∷ []) (notification_feedless out f) (refl, tt) in
    let rest : HaveNoFeed (mark out.number ∷ (second_texts out (mic_texts out.mic) ++ closing out.number ∷ [])) =
    (f.digits, have_append (second_texts out (mic_texts out.mic)) (closing out.number ∷ []) second end) in
    (f.digits, have_append (first_texts out) (mark out.number ∷ (second_texts out (mic_texts out.mic) ++ closing out.number ∷ [])) (first_feedless out f) rest)

lines_are : (out : ReceiptOut) → Feedless out → lines (receipt_text out)
    ≡ [] ++ crlf (mark out.number) ∷
    (map crlf (first_texts out) ++ crlf (mark out.number) ∷ (map crlf (second_texts out (mic_texts out.mic)) ++ crlf (closing out.number) ∷ []))
lines_are out f =
    ap lines (text_is out)
    ∙ lines_of_joined (texts_with out (mic_texts out.mic)) (texts_feedless out f)
    ∙ ap (λ (x : List (List ℕ)). crlf (mark out.number) ∷ (map crlf (first_texts out) ++ crlf (mark out.number) ∷ x))
    (map-append crlf (second_texts out (mic_texts out.mic)) (closing out.number ∷ []))

-- ---- its parts

-- the head and the content of the second part
abbrev pub notification_part : ReceiptOut → PartText
notification_part out = (crlf type_line, joined (field_texts out (mic_texts out.mic)))

opens : (n : ℕ) → IsDelimiter (boundary_text n) (crlf (mark n))
opens n = ([], refl, line_end_off (mark n) ∙ sym (append-nil (mark n)))

closes : (n : ℕ) → IsClosing (boundary_text n) (crlf (closing n))
closes n = ([], refl, line_end_off (closing n))

no_hyphens : (out : ReceiptOut) (mic : Option ReceiptMic) → list_all (λ text. not (begins_with_hyphen text)) (second_texts out (mic_texts mic)) ≡ true
no_hyphens out None = refl
no_hyphens out (Some mic) = refl

part_is : (out : ReceiptOut) → Feedless out → notification_part out ≡ part_of (map crlf (second_texts out (mic_texts out.mic)))
part_is out f =
    let texts = notification_texts out (mic_texts out.mic) in
    let section : without_line_end (concat (map crlf (texts ++ [] ∷ []))) ≡ joined texts
    = ap without_line_end (concat_crlf (texts ++ [] ∷ []) ∙ joined_push texts) ∙ line_end_off (joined texts) in
    sym (ap part_in section
    ∙ ap cut_at_empty_line (lines_of_joined texts (notification_feedless out f))
    ∙ (λ i. (crlf type_line, concat_crlf (field_texts out (mic_texts out.mic)) i)))

pub two_parts : (out : ReceiptOut) → Feedless out
    → IsTwoParts (boundary_text out.number) (receipt_text out) (part_of (map crlf (first_texts out))) (notification_part out)
two_parts out f = record {
  preamble = [];
  opening = crlf (mark out.number);
  first_lines = map crlf (first_texts out);
  between = crlf (mark out.number);
  second_lines = map crlf (second_texts out (mic_texts out.mic));
  next = crlf (closing out.number);
  rest = [];
  whole = lines_are out f;
  opens = opens out.number;
  parts = opens out.number;
  ends = inr (closes out.number);
  closed = (0, crlf (closing out.number), omega arith, refl, closes out.number);
  before = All-nil _;
  in_first = no_marks (boundary_text out.number) (first_texts out) refl;
  in_second = no_marks (boundary_text out.number) (second_texts out (mic_texts out.mic)) (no_hyphens out out.mic);
  first_part = refl;
  second_part = part_is out f;
}
