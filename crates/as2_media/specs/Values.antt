-- The values of parameters and their spelling (RFC 2045, section 5.1; the quoted string of RFC 822, section 3.3).
use Rattle.std.specs.Prelude.{◌≡◌, ◌≢◌, ℕ, ◌-◌, ◌⊎◌, Bool, true, false, ◌&&◌, not, ◌==◌, nat_le, List, [], ◌∷◌, ◌++◌, length, slice_index, slice_range, if◌then◌else◌, IsTrue, Option, Some, None}
use Rattle.std.specs.List.{flat_map, list_all}
use Rattle.as2_names.specs.Ascii.{quote, backslash}
use Rattle.as2_names.specs.Trim.{trimmed_text}
use Rattle.as2_media.specs.Bytes.{is_bare_byte, is_line_byte}

-- a value that stands without quotes: no blank at its ends
pub record IsBare (value : List ℕ) : Type 0 where
  pub some : value ≢ []
  pub trim : trimmed_text value ≡ value
  pub bytes : IsTrue (list_all is_bare_byte value)

-- a unit between quotes: a byte (qtext), or a backslash and the byte behind it (quoted-pair)
pub data QuotedUnit : Type 0 where
  qtext : ℕ → QuotedUnit
  pair : ℕ → QuotedUnit

abbrev pub print_unit : QuotedUnit → List ℕ
print_unit (qtext b) = b ∷ []
print_unit (pair b) = backslash ∷ b ∷ []

-- a quote or a backslash stands behind a backslash only; CR and LF stand nowhere
abbrev pub is_unit : QuotedUnit → Bool
is_unit (qtext b) = not (is_line_byte b) && (not (b == quote) && not (b == backslash))
is_unit (pair b) = not (is_line_byte b)

-- a value that stands between quotes
pub record IsQuoted (value : List ℕ) : Type 0 where
  pub units : List QuotedUnit
  pub whole : value ≡ flat_map print_unit units
  pub each : IsTrue (list_all is_unit units)

-- the text between quotes
abbrev pub in_quotes : List ℕ → List ℕ
in_quotes value = quote ∷ value ++ quote ∷ []

-- The text spells the value: as itself, or between quotes, where the value is what stands there, backslashes and all.
abbrev pub SpellsValue : List ℕ → List ℕ → Type 0
SpellsValue text value = (IsBare value × (text ≡ value)) ⊎ (IsQuoted value × (text ≡ in_quotes value))

-- ---- reading

-- units that may stand between quotes; from behind a backslash where `escaped`
abbrev pub is_quoted_text : Bool → List ℕ → Bool
is_quoted_text escaped [] = not escaped
is_quoted_text true (b ∷ rest) = not (is_line_byte b) && is_quoted_text false rest
is_quoted_text false (b ∷ rest) = not (is_line_byte b) && (not (b == quote) && is_quoted_text (b == backslash) rest)

-- it begins with a quote and ends with another
abbrev pub is_enclosed : List ℕ → Bool
is_enclosed text =
    nat_le 2 (length text)
    && slice_index text 0 == quote
    && slice_index text (length text - 1) == quote

-- what stands between the quotes that the text begins and ends with
unfoldable pub between_quotes : List ℕ → Option (List ℕ)
between_quotes text = if is_enclosed text then Some (slice_range text 1 (length text - 1)) else None

-- the value that stands between quotes, or else the text itself
abbrev pub value_among : Option (List ℕ) → List ℕ → Option (List ℕ)
value_among (Some value) text = if is_quoted_text false value then Some value else None
value_among None text = if not (length text == 0) && list_all is_bare_byte text then Some text else None

-- the value that a text without blanks at its ends spells
abbrev pub spelled_value : List ℕ → Option (List ℕ)
spelled_value text = value_among (between_quotes text) text
