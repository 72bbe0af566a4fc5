-- The requests of a document and of a receipt to an address that is known, part by part (RFC 4130, sections 5.3, 6 and 7.3).
use Rattle.std.specs.Prelude.{◌++◌, length, codes, decimal}
use Rattle.as2_names.specs.Names.{name_spelling}
use Rattle.as2_text.specs.Addresses.{authority_of}
use Rattle.as2_mdn.specs.Reports.{head_fields, crlf_line, receipt_text}
use Rattle.as2_mdn.specs.declared.report.ReceiptOut.{ReceiptOut}
use Rattle.as2_exchange.specs.Agreement.{Agreements, Partner, Text}
use Rattle.as2_exchange.specs.Jobs.{asking_fields, request_opening}
use Rattle.as2_exchange.specs.declared.answer.Job.{Job}

-- from whom and to whom it is, and which it is
abbrev pub name_fields : Partner → Text → Text → Text
name_fields p organization id =
    codes "AS2-Version: 1.0\r\n"
    ++ crlf_line (codes "AS2-From: ") (name_spelling organization)
    ++ crlf_line (codes "AS2-To: ") (name_spelling p.name)
    ++ crlf_line (codes "Message-ID: ") id

-- its content, and how its receipt is asked for
abbrev pub content_fields : Agreements → Partner → Text → Text
content_fields A p content =
    crlf_line (codes "Content-Type: ") p.content_type
    ++ codes "Content-Transfer-Encoding: binary\r\n"
    ++ asking_fields p.receipt A p
    ++ crlf_line (codes "Content-Length: ") (decimal (length content))

abbrev pub request_to : Text × Text → Agreements → Partner → Text → Text → Text → Job
request_to address A p organization id content =
    record {
      authority = authority_of address;
      bytes = request_opening address ++ name_fields p organization id ++ content_fields A p content ++ codes "\r\n" ++ content;
    }

abbrev pub receipt_to : Text × Text → ReceiptOut → Job
receipt_to address out =
    record {
      authority = authority_of address;
      bytes = request_opening address ++ head_fields out ++ codes "\r\n" ++ receipt_text out;
    }
