-- The requests of a document and of a receipt, put together from their parts.
use Rattle.std.proofs.Common.{◌≡◌, ◌∙◌, ◌++◌, ℕ, List, length, Option, Some, IfSome, codes, subst, sym, ap, append_assoc}
use Rattle.std.specs.Prelude.{decimal}
use Rattle.as2_mdn.specs.Reports.{head_fields, crlf_line, receipt_text}
use Rattle.as2_mdn.specs.declared.report.ReceiptOut.{ReceiptOut}
use Rattle.as2_text.specs.Addresses.{IsAuthority, IsUrl, authority_of, url_of}
use Rattle.as2_exchange.specs.Agreement.{Agreements, Partner, Text}
use Rattle.as2_exchange.specs.Jobs.{address_of, address_or_nothing, asking_fields, document_fields, document_request, request_opening, receipt_request}
use Rattle.as2_posts.specs.Sending.{content_fields, name_fields, receipt_to, request_to}

-- the authority of an address that was read
pub named_authority : (text : Text) (read : Option (Text × Text)) (address : Text × Text) → read ≡ Some address → IfSome read (IsUrl text)
    → IsAuthority (authority_of address)
named_authority text read address is found = (subst (λ o. IfSome o (IsUrl text)) is found).authority

-- four texts that are appended one behind the other
pub four : (t a b c d : List ℕ) → (((t ++ a) ++ b) ++ c) ++ d ≡ t ++ (((a ++ b) ++ c) ++ d)
four t a b c d = ap (λ l. (l ++ c) ++ d) (append_assoc t a b) ∙ ap (λ l. l ++ d) (append_assoc t (a ++ b) c) ∙ append_assoc t ((a ++ b) ++ c) d

joined : (A : Agreements) (p : Partner) (organization id content : Text)
    → name_fields p organization id ++ content_fields A p content ≡ document_fields A p organization id content
joined A p organization id content =
    sym (four (name_fields p organization id) (crlf_line (codes "Content-Type: ") p.content_type) (codes "Content-Transfer-Encoding: binary\r\n")
    (asking_fields p.receipt A p) (crlf_line (codes "Content-Length: ") (decimal (length content))))

-- the address is the partner's
pub same_request : (A : Agreements) (p : Partner) (organization id content : Text) (address : Text × Text) → url_of p.url ≡ Some address
    → request_to address A p organization id content ≡ document_request A p organization id content
same_request A p organization id content address is =
    let there : address_or_nothing (Some address) ≡ address_of p.url = ap address_or_nothing (sym is) in
    ap (λ (text : Text). record { authority = authority_of address; bytes = text ++ codes "\r\n" ++ content })
    (append_assoc (request_opening address) (name_fields p organization id) (content_fields A p content)
    ∙ ap (λ l. request_opening address ++ l) (joined A p organization id content))
    ∙ ap (λ (a : Text × Text). record {
      authority = authority_of a;
      bytes = request_opening a ++ document_fields A p organization id content
          ++ codes "\r\n" ++ content;
    }) there

-- the address is the one that was named
pub same_receipt : (out : ReceiptOut) (url : Text) (address : Text × Text) → url_of url ≡ Some address → receipt_to address out ≡ receipt_request url out
same_receipt out url address is =
    let there : address_or_nothing (Some address) ≡ address_of url = ap address_or_nothing (sym is) in
    ap (λ (a : Text × Text). record { authority = authority_of a; bytes = request_opening a ++ head_fields out ++ codes "\r\n" ++ receipt_text out }) there
