-- The requests that the station sends: a document to its partner (RFC 4130, sections 5.3 and 6), and a receipt that is
-- sent later (RFC 4130, section 7.3). Both are HTTP requests (RFC 9112, section 3), one to a connection.
use Rattle.std.specs.Prelude.{ℕ, [], ◌++◌, length, Option, Some, None, codes, decimal}
use Rattle.as2_names.specs.Names.{name_spelling}
use Rattle.as2_text.specs.Addresses.{authority_of, address_target, url_of}
use Rattle.as2_mic.specs.Algs.{alg_name}
use Rattle.as2_mdn.specs.Reports.{crlf_line, head_fields, receipt_text}
use Rattle.as2_mdn.specs.declared.report.ReceiptOut.{ReceiptOut}
use Rattle.as2_exchange.specs.declared.answer.Job.{Job}
use Rattle.as2_exchange.specs.Agreement.{Text, Agreements, Partner, Asked, NoReceipt, Sync, Async}

-- ---- identifiers

-- the value of document n's identifier: `out-N@domain`
abbrev pub identifier_value : Agreements → ℕ → Text
identifier_value A n = codes "out-" ++ decimal n ++ codes "@" ++ A.domain

-- an identifier as it is written: its value between angle brackets (RFC 4130, section 5.3.3)
abbrev pub identifier_in_brackets : Text → Text
identifier_in_brackets value = codes "<" ++ value ++ codes ">"

-- ---- what both begin with

-- the authority and the target of an address; empty where the text is none
abbrev pub address_or_nothing : Option (Text × Text) → Text × Text
address_or_nothing (Some address) = address
address_or_nothing None = ([], [])

abbrev pub address_of : Text → Text × Text
address_of url = address_or_nothing (url_of url)

-- the request line, and the fields of the connection, which is closed after the answer
abbrev pub request_opening : Text × Text → Text
request_opening address =
    crlf_line (codes "POST ") (address_target address ++ codes " HTTP/1.1")
    ++ crlf_line (codes "Host: ") (authority_of address)
    ++ codes "Connection: close\r\n"

-- ---- a document

-- the fields that ask for a receipt (RFC 8098, section 2; RFC 4130, section 7.3)
abbrev pub request_fields : Agreements → Partner → Text
request_fields A p =
    crlf_line (codes "Disposition-Notification-To: as2@") A.domain
    ++ crlf_line (codes "Disposition-Notification-Options: signed-receipt-micalg=optional, ") (alg_name p.digest)

-- the field that says where the receipt is to be sent
abbrev pub return_field : Option Text → Text
return_field None = []
return_field (Some url) = crlf_line (codes "Receipt-Delivery-Option: ") url

-- the fields that ask a partner for a receipt in the agreed way
abbrev pub asking_fields : Asked → Agreements → Partner → Text
asking_fields NoReceipt A p = []
asking_fields Sync A p = request_fields A p
asking_fields Async A p = request_fields A p ++ return_field A.return_url

-- the head fields of a document: organization, identifier and content
abbrev pub document_fields : Agreements → Partner → Text → Text → Text → Text
document_fields A p organization id content =
    codes "AS2-Version: 1.0\r\n"
    ++ crlf_line (codes "AS2-From: ") (name_spelling organization)
    ++ crlf_line (codes "AS2-To: ") (name_spelling p.name)
    ++ crlf_line (codes "Message-ID: ") id
    ++ crlf_line (codes "Content-Type: ") p.content_type
    ++ codes "Content-Transfer-Encoding: binary\r\n"
    ++ asking_fields p.receipt A p
    ++ crlf_line (codes "Content-Length: ") (decimal (length content))

-- the request that carries a document to its partner
abbrev pub document_request : Agreements → Partner → Text → Text → Text → Job
document_request A p organization id content =
    record {
      authority = authority_of (address_of p.url);
      bytes = request_opening (address_of p.url) ++ document_fields A p organization id content ++ codes "\r\n" ++ content;
    }

-- ---- a receipt

-- the request that carries a receipt to an address
abbrev pub receipt_request : Text → ReceiptOut → Job
receipt_request url out =
    record {
      authority = authority_of (address_of url);
      bytes = request_opening (address_of url) ++ head_fields out ++ codes "\r\n" ++ receipt_text out;
    }
