-- The report that is written: a multipart/report (RFC 6522, section 3) whose second part is a message disposition
-- notification (RFC 8098, section 3). That part has the fields of AS2 (RFC 4130, section 7.4). And the head fields of
-- the report.
use Rattle.std.specs.Prelude.{ℕ, List, [], ◌++◌, length, Option, Some, None, codes, decimal}
use Rattle.as2_names.specs.Names.{name_spelling}
use Rattle.as2_mic.specs.Algs.{alg_name}
use Rattle.as2_mdn.specs.Outcomes.{outcome_text}
use Rattle.as2_mdn.specs.declared.report.ReceiptOut.{ReceiptOut}
use Rattle.as2_mdn.specs.declared.report.ReceiptMic.{ReceiptMic}
use Rattle.as2_mdn.specs.declared.outcome.Outcome.{Outcome}

-- a line: its start, its value and CRLF
abbrev pub crlf_line : List ℕ → List ℕ → List ℕ
crlf_line start value = start ++ value ++ codes "\r\n"

-- ---- what is made of the number

-- the boundary (RFC 2046, section 5.1.1)
abbrev pub boundary_text : ℕ → List ℕ
boundary_text number = codes "as2-mdn-" ++ decimal number

-- the value of the report's Content-Type
abbrev pub content_type_text : ℕ → List ℕ
content_type_text number =
    codes "multipart/report; report-type=disposition-notification; boundary=\"" ++ boundary_text number ++ codes "\""

-- the report's own message identifier
abbrev pub receipt_id_text : ℕ → List ℕ → List ℕ
receipt_id_text number domain = codes "<mdn-" ++ decimal number ++ codes "@" ++ domain ++ codes ">"

-- ---- the parts

-- the first part, which people read
abbrev pub explanation_text : ℕ → Outcome → List ℕ
explanation_text number outcome =
    codes "Content-Type: text/plain\r\n"
    ++ codes "\r\n"
    ++ codes "Receipt " ++ decimal number ++ codes " for the message named below.\r\n"
    ++ crlf_line (codes "Outcome: ") (outcome_text outcome)

-- a MIC and the name of its digest
abbrev pub mic_with_digest : ReceiptMic → List ℕ
mic_with_digest mic = mic.text ++ codes ", " ++ alg_name mic.digest

-- the line of the MIC, where there is one (RFC 4130, section 7.4.3)
abbrev pub mic_line : Option ReceiptMic → List ℕ
mic_line None = []
mic_line (Some mic) = crlf_line (codes "Received-content-MIC: ") (mic_with_digest mic)

-- the second part, which programs read (RFC 8098, section 3.2)
abbrev pub notification_text : ReceiptOut → List ℕ
notification_text out =
    codes "Content-Type: message/disposition-notification\r\n"
    ++ codes "\r\n"
    ++ crlf_line (codes "Reporting-UA: ") (codes "as2-station")
    ++ crlf_line (codes "Final-Recipient: rfc822; ") (name_spelling out.from)
    ++ crlf_line (codes "Original-Message-ID: ") out.original_id
    ++ crlf_line (codes "Disposition: automatic-action/MDN-sent-automatically; ") (outcome_text out.outcome)
    ++ mic_line out.mic

-- ---- the report

-- The body. The line end before a delimiter belongs to the delimiter, and not to the part.
abbrev pub receipt_text : ReceiptOut → List ℕ
receipt_text out =
    crlf_line (codes "--") (boundary_text out.number)
    ++ explanation_text out.number out.outcome
    ++ crlf_line (codes "\r\n--") (boundary_text out.number)
    ++ notification_text out
    ++ codes "\r\n--" ++ boundary_text out.number ++ codes "--\r\n"

-- the head fields of AS2 (RFC 4130, sections 6.1 and 6.2)
abbrev pub as2_fields_text : ReceiptOut → List ℕ
as2_fields_text out =
    codes "AS2-Version: 1.0\r\n"
    ++ crlf_line (codes "AS2-From: ") (name_spelling out.from)
    ++ crlf_line (codes "AS2-To: ") (name_spelling out.to)

-- the head fields of a body of n bytes (RFC 4130, section 7.3)
abbrev pub head_fields_of : ReceiptOut → ℕ → List ℕ
head_fields_of out n =
    as2_fields_text out
    ++ crlf_line (codes "Message-ID: ") (receipt_id_text out.number out.domain)
    ++ crlf_line (codes "Content-Type: ") (content_type_text out.number)
    ++ crlf_line (codes "Content-Length: ") (decimal n)

-- the head fields of the report
abbrev pub head_fields : ReceiptOut → List ℕ
head_fields out = head_fields_of out (length (receipt_text out))
