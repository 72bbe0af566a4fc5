-- AS2 names (RFC 4130, section 6.2): which text spells which name, and the first fault of a text that spells none.
use Rattle.std.specs.Prelude.{◌≡◌, ℕ, ◌<◌, ◌≤◌, ◌⊎◌, Bool, true, false, ◌&&◌, ◌||◌, not, List, [], ◌∷◌, ◌++◌, length, if◌then◌else◌, ◌==◌, nat_lt, nat_le, IsTrue, Result, Ok, Err}
use Rattle.std.specs.List.{flat_map, list_all}
use Rattle.as2_names.specs.Ascii.{space, quote, backslash, tilde, is_printable}
use Rattle.as2_names.specs.declared.name.NameFault.{NameFault}
use Rattle.as2_names.specs.declared.name.NameFault.TheVariants.{Empty, TooLong, BadByte, BadQuoting}

-- `"` and `\`, which stand in quotes behind a backslash
abbrev pub is_escaped_mark : ℕ → Bool
is_escaped_mark b = b == quote || b == backslash

-- AS2-text: printable, no space, and not special
abbrev pub is_text_byte : ℕ → Bool
is_text_byte b = nat_lt space b && (nat_le b tilde && not (is_escaped_mark b))

-- a name
pub record IsName (name : List ℕ) : Type 0 where
  pub some : 0 < length name
  pub short : length name ≤ 128
  pub printable : IsTrue (list_all is_printable name)

-- a byte as it stands between quotes
abbrev pub quoted_byte : ℕ → List ℕ
quoted_byte b = if is_escaped_mark b then backslash ∷ b ∷ [] else b ∷ []

-- the name between double quotes
abbrev pub quoted_name : List ℕ → List ℕ
quoted_name name = quote ∷ flat_map quoted_byte name ++ quote ∷ []

-- The text spells the name: as itself, where it is all AS2-text, or between quotes.
abbrev pub Spells : List ℕ → List ℕ → Type 0
Spells text name = IsName name × ((IsTrue (list_all is_text_byte name) × (text ≡ name)) ⊎ (text ≡ quoted_name name))

-- the spelling that is written: the atomic one where there is one
abbrev pub name_spelling : List ℕ → List ℕ
name_spelling name = if list_all is_text_byte name then name else quoted_name name

-- ---- reading from the left, up to the first fault

-- what is read is these and then those
abbrev pub with_front : {X E : Type 0} → List X → Result (List X) E → Result (List X) E
with_front front (Ok more) = Ok (front ++ more)
with_front front (Err e) = Err e

-- nothing follows the closing quote
abbrev pub at_closing_quote : List ℕ → Result (List ℕ) NameFault
at_closing_quote [] = Ok []
at_closing_quote (b ∷ rest) = Err BadQuoting

-- the units behind the opening quote; behind a backslash where `escaping`
abbrev pub units : Bool → List ℕ → Result (List ℕ) NameFault
units escaping [] = Err BadQuoting
units true (b ∷ rest) = if is_escaped_mark b then with_front (b ∷ []) (units false rest) else Err BadQuoting
units false (b ∷ rest) =
    if b == quote then at_closing_quote rest
    else if b == backslash then units true rest
    else if is_printable b then with_front (b ∷ []) (units false rest) else Err BadByte

-- the units, where there are 1 to 128
abbrev pub limited_units : List ℕ → Result (List ℕ) NameFault
limited_units units = if length units == 0 then Err Empty else if nat_lt 128 (length units) then Err TooLong else Ok units

-- the units of a text that could be read, where they fit
abbrev pub limited_name : Result (List ℕ) NameFault → Result (List ℕ) NameFault
limited_name (Ok units) = limited_units units
limited_name (Err e) = Err e

-- the name that an atomic text spells
abbrev pub atomic : List ℕ → Result (List ℕ) NameFault
atomic text = if list_all is_text_byte text then limited_units text else Err BadByte

-- the name that a text spells, or its first fault
abbrev pub name_reading : List ℕ → Result (List ℕ) NameFault
name_reading [] = Err Empty
name_reading (b ∷ rest) = if b == quote then limited_name (units false rest) else atomic (b ∷ rest)

-- the name that the bytes are, without a spelling
abbrev pub plain : List ℕ → Result (List ℕ) NameFault
plain bytes =
    if length bytes == 0 then Err Empty
    else if list_all is_printable bytes then limited_units bytes else Err BadByte
