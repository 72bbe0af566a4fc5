-- What the keys of a table hold, and which values may be agreed (media types: RFC 2045, section 5.1; addresses: RFC 9110,
-- section 4.2.1).
use Rattle.std.specs.Prelude.{◌≡◌, ℕ, ◌<◌, ◌≤◌, ◌&&◌, Bool, nat_lt, nat_le, List, length, is_some, IsTrue, pos, true, false, Option, Some, Result, Ok, Err}
use Rattle.std.specs.List.{list_all}
use Rattle.toml.specs.Data.{Data, string, integer, Members, get_member}
use Rattle.as2_names.specs.Ascii.{is_printable}
use Rattle.as2_media.specs.declared.fault.TypeFault.{TypeFault}
use Rattle.as2_media.specs.declared.kind.Kind.{Kind}
use Rattle.as2_media.specs.declared.kind.Kind.TheVariants as kind
use Rattle.as2_media.specs.Kinds.{kind_of}
use Rattle.as2_media.specs.MediaTypes.{Media, IsMediaType, media_type_reading}
use Rattle.as2_text.specs.Addresses.{IsUrl, url_of}
use Rattle.as2_agreement.specs.declared.key.Key.{Key}
use Rattle.as2_agreement.specs.Keys.{key_name}

-- the value at a key
abbrev pub value_at : Key → Members → Option Data
value_at key table = get_member (key_name key) table

-- the key holds that text
abbrev pub HasText : Members → Key → List ℕ → Type 0
HasText table key text = value_at key table ≡ Some (string text)

-- the key holds that whole number
abbrev pub HasNumber : Members → Key → ℕ → Type 0
HasNumber table key number = value_at key table ≡ Some (integer (pos number))

-- ---- which values may be agreed

-- an address of an HTTP service
abbrev pub IsAddress : List ℕ → Type 0
IsAddress text = (url : List ℕ × List ℕ) × IsUrl text url

-- the same as a test
abbrev pub is_address : List ℕ → Bool
is_address text = is_some (url_of text)

-- the media type of a document, neither wrapped nor a report
abbrev pub IsDocumentType : List ℕ → Type 0
IsDocumentType text = (media : Media) × IsMediaType text media × (kind_of media ≡ kind.Document)

-- the same as a test
abbrev pub is_document : Kind → Bool
is_document kind.Document = true
is_document kind.Enveloped = false
is_document kind.Compressed = false
is_document kind.Signed = false
is_document kind.Report = false

abbrev pub is_document_type : Result Media TypeFault → Bool
is_document_type (Ok media) = is_document (kind_of media)
is_document_type (Err e) = false

-- a content type: 1 to 255 printable bytes that are the media type of a document
pub record IsContentType (text : List ℕ) : Type 0 where
  pub some : 0 < length text
  pub short : length text ≤ 255
  pub printable : IsTrue (list_all is_printable text)
  pub document : IsDocumentType text

-- the same as a test
abbrev pub is_content_type : List ℕ → Bool
is_content_type text = nat_lt 0 (length text) && nat_le (length text) 255 && list_all is_printable text && is_document_type (media_type_reading text)

-- a number from 1 to the most
pub record IsCount (limit number : ℕ) : Type 0 where
  pub least : 1 ≤ number
  pub most : number ≤ limit
