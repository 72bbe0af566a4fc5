-- Media types (RFC 2045, section 5.1): which text is which media type, and the first fault of a text that is none.
use Rattle.std.specs.Prelude.{◌≡◌, ℕ, ◌≤◌, Bool, ◌&&◌, List, [], ◌∷◌, ◌++◌, length, if◌then◌else◌, IsTrue, Option, Some, None, Result, Ok, Err}
use Rattle.std.specs.List.{flat_map}
use Rattle.std.specs.Str.{str_eq_ignore_ascii_case}
use Rattle.as2_names.specs.Ascii.{slash, semicolon}
use Rattle.as2_names.specs.Cuts.{cut_at}
use Rattle.as2_names.specs.Trim.{trimmed_text}
use Rattle.as2_media.specs.Bytes.{is_token}
use Rattle.as2_media.specs.Cuts.{segments}
use Rattle.as2_media.specs.Parameters.{IsPadded, Spell, parameters}
use Rattle.as2_media.specs.declared.cuts.Place.TheVariants.{Outside}
use Rattle.as2_media.specs.declared.fault.TypeFault.{TypeFault}
use Rattle.as2_media.specs.declared.fault.TypeFault.TheVariants as fault

-- a media type: type, subtype and parameters, each a name and a value, in order
pub record Media : Type 0 where
  pub type_name : List ℕ
  pub subtype : List ℕ
  pub parameters : List (List ℕ × List ℕ)

-- the texts, each behind a `;`
abbrev pub behind_semicolons : List (List ℕ) → List ℕ
behind_semicolons texts = flat_map (λ text. semicolon ∷ text) texts

-- The text is the media type: two tokens with `/` between them, blanks around both, then the spellings of at most eight
-- parameters, each behind a `;`.
pub record IsMediaType (text : List ℕ) (media : Media) : Type 0 where
  pub essence : List ℕ
  pub texts : List (List ℕ)
  pub whole : text ≡ essence ++ behind_semicolons texts
  pub is : IsPadded essence (media.type_name ++ slash ∷ media.subtype)
  pub type_token : IsTrue (is_token media.type_name)
  pub subtype_token : IsTrue (is_token media.subtype)
  pub spell : Spell texts media.parameters
  pub few : length media.parameters ≤ 8

-- a type and a subtype are these, whatever the case of their letters
abbrev pub is_type : List ℕ → List ℕ → List ℕ × List ℕ → Bool
is_type type_name subtype essence = str_eq_ignore_ascii_case essence.0 type_name && str_eq_ignore_ascii_case essence.1 subtype

-- the media type is of this type and subtype
abbrev pub media_is_type : List ℕ → List ℕ → Media → Bool
media_is_type type_name subtype media = is_type type_name subtype (media.type_name, media.subtype)

-- ---- reading

-- the type and the subtype before and behind the `/`, where both are tokens
abbrev pub tokens : Option (List ℕ × List ℕ) → Result (List ℕ × List ℕ) TypeFault
tokens None = Err fault.NoSlash
tokens (Some cut) = if is_token cut.0 && is_token cut.1 then Ok cut else Err fault.BadToken

-- the type and the subtype that the text before the first `;` gives
abbrev pub essence : List ℕ → Result (List ℕ × List ℕ) TypeFault
essence text = tokens (cut_at slash (trimmed_text text))

abbrev pub media_of : Result (List ℕ × List ℕ) TypeFault → Result (List (List ℕ × List ℕ)) TypeFault → Result Media TypeFault
media_of (Err e) parameters = Err e
media_of (Ok essence) (Err e) = Err e
media_of (Ok essence) (Ok parameters) = Ok (record { type_name = essence.0; subtype = essence.1; parameters = parameters })

-- the media type of a text that is cut at its first `;`, or has none
abbrev pub reading_of : List ℕ → Option (List ℕ × List ℕ) → Result Media TypeFault
reading_of text None = media_of (essence text) (Ok [])
reading_of text (Some cut) = media_of (essence cut.0) (parameters 8 (segments Outside cut.1))

-- the media type that a text is, or its first fault
abbrev pub media_type_reading : List ℕ → Result Media TypeFault
media_type_reading text = reading_of text (cut_at semicolon text)
