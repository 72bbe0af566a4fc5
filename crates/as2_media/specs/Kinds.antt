-- What a body is, told by its media type (RFC 8551, section 3.2; RFC 6522, section 3), and the boundary of its parts
-- (RFC 2046, section 5.1.1).
use Rattle.std.specs.Prelude.{ℕ, ◌-◌, Bool, false, ◌&&◌, ◌||◌, not, ◌==◌, nat_le, List, length, slice_index, codes, if◌then◌else◌, Option, Some, None}
use Rattle.std.specs.List.{list_all}
use Rattle.as2_names.specs.Ascii.{space, backslash, is_printable}
use Rattle.as2_names.specs.Options.{is_word}
use Rattle.as2_media.specs.Parameters.{first_value}
use Rattle.as2_media.specs.MediaTypes.{Media, media_is_type}
use Rattle.as2_media.specs.declared.kind.Kind.{Kind}
use Rattle.as2_media.specs.declared.kind.Kind.TheVariants as kind

-- a value is given, and is that word
abbrev pub is_given : List ℕ → Option (List ℕ) → Bool
is_given word None = false
is_given word (Some value) = is_word value word

-- the first parameter of that name is that word
abbrev pub says : List ℕ → List ℕ → Media → Bool
says name word media = is_given word (first_value name media.parameters)

-- what a body of type `application/pkcs7-mime` is
abbrev pub pkcs7_kind : Media → Kind
pkcs7_kind media =
    if says (codes "smime-type") (codes "compressed-data") media then kind.Compressed
    else if says (codes "smime-type") (codes "signed-data") media then kind.Signed
    else kind.Enveloped

-- what a body is
abbrev pub kind_of : Media → Kind
kind_of media =
    if media_is_type (codes "application") (codes "pkcs7-mime") media || media_is_type (codes "application") (codes "x-pkcs7-mime") media then pkcs7_kind media
    else if media_is_type (codes "multipart") (codes "signed") media then kind.Signed
    else if media_is_type (codes "multipart") (codes "report") media && says (codes "report-type") (codes "disposition-notification") media then kind.Report
    else kind.Document

-- printable, and no backslash
abbrev pub is_boundary_byte : ℕ → Bool
is_boundary_byte b = is_printable b && not (b == backslash)

-- a boundary: 1 to 70 such bytes, the last no space
abbrev pub is_boundary : List ℕ → Bool
is_boundary text =
    not (length text == 0)
    && nat_le (length text) 70
    && list_all is_boundary_byte text
    && not (slice_index text (length text - 1) == space)

-- the value, where it is a boundary
abbrev pub usable : Option (List ℕ) → Option (List ℕ)
usable None = None
usable (Some text) = if is_boundary text then Some text else None

-- the boundary that the first parameter of that name gives
abbrev pub boundary_of : Media → Option (List ℕ)
boundary_of media = usable (first_value (codes "boundary") media.parameters)
