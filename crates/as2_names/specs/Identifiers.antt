-- Message identifiers (RFC 4130, section 5.3.3): which texts are one, the value that two of them are compared by, and
-- the first fault of a text that is none.
use Rattle.std.specs.Prelude.{◌≡◌, ℕ, ◌-◌, ◌<◌, ◌≤◌, ◌⊎◌, Bool, ◌&&◌, not, ◌==◌, nat_lt, nat_le, List, length, slice_index, slice_range, if◌then◌else◌, IsTrue, IsOk, Result, Ok, Err}
use Rattle.std.specs.List.{list_all}
use Rattle.std.specs.Str.{bytes_eq}
use Rattle.as2_names.specs.Ascii.{open_angle, close_angle, is_printable}
use Rattle.as2_names.specs.Blanks.{without_blanks}
use Rattle.as2_names.specs.declared.identifier.IdFault.{IdFault}
use Rattle.as2_names.specs.declared.identifier.IdFault.TheVariants as fault

-- it begins with `<` and ends with `>`, which are two bytes
abbrev pub is_bracketed : List ℕ → Bool
is_bracketed text =
    nat_le 2 (length text)
    && slice_index text 0 == open_angle
    && slice_index text (length text - 1) == close_angle

-- the text without one surrounding pair `<` `>`
unfoldable pub without_brackets : List ℕ → List ℕ
without_brackets text = if is_bracketed text then slice_range text 1 (length text - 1) else text

-- an identifier, as it is received
pub record IsIdentifier (text : List ℕ) : Type 0 where
  pub bare : without_blanks text ≡ text
  pub printable : IsTrue (list_all is_printable text)
  pub some : 0 < length (without_brackets text)
  pub short : length (without_brackets text) ≤ 998

-- the text is one
abbrev pub is_identifier : List ℕ → Bool
is_identifier text =
    bytes_eq (without_blanks text) text
    && not (length (without_brackets text) == 0)
    && nat_le (length (without_brackets text)) 998
    && list_all is_printable text

-- ---- the first fault

-- the text, or its first fault
abbrev pub identifier_of : List ℕ → Result (List ℕ) IdFault
identifier_of text =
    if length (without_brackets text) == 0 then Err fault.Empty
    else if nat_lt 998 (length (without_brackets text)) then Err fault.TooLong
    else if list_all is_printable text then Ok text
    else Err fault.BadByte

-- the identifier that a field holds, or its first fault
abbrev pub identifier_reading : List ℕ → Result (List ℕ) IdFault
identifier_reading field = identifier_of (without_blanks field)

-- that answer, but memory may be wanting for an identifier
abbrev pub OrNoMemory : Result (List ℕ) IdFault → Result (List ℕ) IdFault → Type 0
OrNoMemory result answer = (result ≡ answer) ⊎ ((result ≡ Err fault.Memory) × IsOk answer)
