-- The tests of addresses and content types decide.
use Rattle.std.proofs.Common.{◌≡◌, ℕ, true, false, List, length, Option, Some, None, Result, Ok, Err, refl, sym, arith}
use Rattle.std.specs.Prelude.{is_some, nat_lt, nat_le, ◌&&◌, IfSome, IfNone}
use Rattle.std.specs.List.{list_all}
use Rattle.std.proofs.lemmas.Bool.{and_parts}
use Rattle.std.proofs.lemmas.Bool.Decides.{nat_tests}
use Rattle.as2_names.specs.Ascii.{is_printable}
use Rattle.as2_media.specs.declared.fault.TypeFault.{TypeFault}
use Rattle.as2_media.specs.declared.kind.Kind.{Kind}
use Rattle.as2_media.specs.declared.kind.Kind.TheVariants as kind
use Rattle.as2_media.specs.Kinds.{kind_of}
use Rattle.as2_media.specs.MediaTypes.{Media, media_type_reading}
use Rattle.as2_media.proofs.Readings.{again}
use Rattle.as2_media.proofs.Spellings.{found_by}
use Rattle.as2_text.specs.Addresses.{IsUrl, url_of}
use Rattle.as2_text.proofs.Addresses.{url_found, url_again}
use Rattle.as2_agreement.specs.Values.{IsAddress, is_address, IsDocumentType, is_document, is_document_type, IsContentType, is_content_type}

read_some : (text : List ℕ) (r : Option (List ℕ × List ℕ)) → url_of text ≡ r → is_some r ≡ true → IsAddress text
read_some text None e h = absurd cc
read_some text (Some url) e h = (url, url_found text url e)

pub address_found : (text : List ℕ) → is_address text ≡ true → IsAddress text
address_found text h = read_some text (url_of text) refl h

pub address_again : (text : List ℕ) → IsAddress text → is_address text ≡ true
address_again text a = rw (url_again text a.0 a.1) refl

none_read : (text : List ℕ) (r : Option (List ℕ × List ℕ)) → url_of text ≡ r → ((url : List ℕ × List ℕ) → ¬ IsUrl text url) → is_some r ≡ false
none_read text None e h = refl
none_read text (Some url) e h = absurd (h url (url_found text url e))

-- what `Url::parse` finds
pub parsed_is : (text : List ℕ) (r : Option (List ℕ × List ℕ)) → IfSome r (IsUrl text) → IfNone r ((url : List ℕ × List ℕ) → ¬ IsUrl text url)
    → is_some r ≡ is_address text
parsed_is text None found none = sym (none_read text (url_of text) refl none)
parsed_is text (Some url) found none = sym (address_again text (url, found))

kind_found : (k : Kind) → is_document k ≡ true → k ≡ kind.Document
kind_found kind.Document h = refl
kind_found kind.Enveloped h = absurd cc
kind_found kind.Compressed h = absurd cc
kind_found kind.Signed h = absurd cc
kind_found kind.Report h = absurd cc

type_found : (text : List ℕ) (r : Result Media TypeFault) → r ≡ media_type_reading text → is_document_type r ≡ true → IsDocumentType text
type_found text (Ok media) e h = (media, found_by text (Ok media) e, kind_found (kind_of media) h)
type_found text (Err f) e h = absurd cc

type_again : (text : List ℕ) → IsDocumentType text → is_document_type (media_type_reading text) ≡ true
type_again text d = rw (again text d.0 d.1, d.2) refl

pub content_type_found : (text : List ℕ) → is_content_type text ≡ true → IsContentType text
content_type_found text h =
    let all = and_parts (nat_lt 0 (length text) && nat_le (length text) 255 && list_all is_printable text) (is_document_type (media_type_reading text)) h in
    let front = and_parts (nat_lt 0 (length text) && nat_le (length text) 255) (list_all is_printable text) all.0 in
    let ends = and_parts (nat_lt 0 (length text)) (nat_le (length text) 255) front.0 in
    record {
      some = grind (arith, nat_tests);
      short = grind (arith, nat_tests);
      printable = front.1;
      document = type_found text (media_type_reading text) refl all.1;
    }

pub content_type_again : (text : List ℕ) → IsContentType text → is_content_type text ≡ true
content_type_again text c =
    let some : nat_lt 0 (length text) ≡ true = grind (arith, nat_tests) in
    let short : nat_le (length text) 255 ≡ true = grind (arith, nat_tests) in
    rw (some, short, c.printable, type_again text c.document) refl
