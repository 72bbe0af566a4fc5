-- The fields of a text (RFC 5322, sections 2.2 and 2.2.3).
use Rattle.std.specs.Prelude.{◌≡◌, ℕ, ◌+◌, take, drop, ◌⊎◌, Bool, false, ◌&&◌, not, ◌==◌, nat_lt, nat_le, List, [], ◌∷◌, length, ◌++◌, if◌then◌else◌, ◌≢◌, IsTrue, All, filter, flat_map, filter_map, Option, Some, None, Result, Ok, Err, position}
use Rattle.std.specs.List.{concat, list_all, onto_first}
use Rattle.std.specs.Str.{str_eq_ignore_ascii_case}
use Rattle.as2_names.specs.Ascii.{line_feed, colon, space, tilde}
use Rattle.as2_names.specs.Blanks.{is_blank}
use Rattle.as2_names.specs.Trim.{trimmed_text}
use Rattle.as2_parts.specs.declared.fields.Field.{Field}
use Rattle.as2_parts.specs.declared.fields.Twice.{Twice}
use Rattle.as2_parts.specs.Lines.{lines}

-- a field: its name and its value
abbrev pub FieldText : Type 0
FieldText = List ℕ × List ℕ

-- ftext: a printable byte, neither a blank nor `:`
abbrev pub is_field_name_byte : ℕ → Bool
is_field_name_byte b = nat_lt space b && nat_le b tilde && not (b == colon)

-- the text begins with a blank
abbrev pub begins_with_blank : List ℕ → Bool
begins_with_blank [] = false
begins_with_blank (b ∷ rest) = is_blank b

-- field = name ":" raw, its value being raw without the blanks and line ends at its ends
pub record IsField (text : List ℕ) (field : FieldText) : Type 0 where
  pub raw : List ℕ
  pub whole : text ≡ field.0 ++ colon ∷ raw
  pub some : field.0 ≢ []
  pub named : IsTrue (list_all is_field_name_byte field.0)
  pub value : field.1 ≡ trimmed_text raw

-- a line, and the lines that go on with it
pub record FoldedLine : Type 0 where
  pub line : List ℕ
  pub more : List (List ℕ)

abbrev pub lines_of : FoldedLine → List (List ℕ)
lines_of f = f.line ∷ f.more

-- lines that go on with the line before
abbrev pub GoOn : List (List ℕ) → Type 0
GoOn more = All (λ line. IsTrue (begins_with_blank line)) more

-- the line goes on with none, and the others with it
abbrev pub IsFolded : FoldedLine → Type 0
IsFolded f = IsTrue (not (begins_with_blank f.line)) × GoOn f.more

-- these are the fields among those lines, in order
abbrev pub HoldsFields : List FoldedLine → List FieldText → Type 0
HoldsFields [] fields = fields ≡ []
HoldsFields (f ∷ rest) fields =
    ((field : FieldText) × (others : List FieldText) × (fields ≡ field ∷ others) × IsField (concat (lines_of f)) field × HoldsFields rest others)
    ⊎ (((field : FieldText) → ¬ IsField (concat (lines_of f)) field) × HoldsFields rest fields)

-- The text has these fields. At its front may stand lines that begin with a blank, which belong to no field. Then come
-- lines, each with those that go on with it. The fields among them are these.
pub record HasFields (text : List ℕ) (fields : List FieldText) : Type 0 where
  pub loose : List (List ℕ)
  pub groups : List FoldedLine
  pub whole : lines text ≡ loose ++ flat_map lines_of groups
  pub loose_go_on : GoOn loose
  pub each : All IsFolded groups
  pub fields_are : HoldsFields groups fields

-- ---- the fields as a function

-- the lines, each with those that go on with it: the text is cut behind each LF that no blank follows
abbrev pub folded_lines : List ℕ → List (List ℕ)
folded_lines [] = []
folded_lines (b ∷ rest) =
    if b == line_feed && not (begins_with_blank rest) then (b ∷ []) ∷ folded_lines rest else onto_first b (folded_lines rest)

abbrev pub is_colon : ℕ → Bool
is_colon b = b == colon

-- the name may be one
abbrev pub is_field_name : List ℕ → Bool
is_field_name name = nat_lt 0 (length name) && list_all is_field_name_byte name

-- the field of that name and that text behind its colon, where the name may be one
abbrev pub field_with : List ℕ → List ℕ → Option FieldText
field_with name raw = if is_field_name name then Some (name, trimmed_text raw) else None

-- the field of a line that has its first colon at that place
abbrev pub field_cut : Option ℕ → List ℕ → Option FieldText
field_cut (Some colon_place) line = field_with (take colon_place line) (drop (colon_place + 1) line)
field_cut None line = None

-- the field that a line is, with those that go on with it, if it is one
abbrev pub folded_field : List ℕ → Option FieldText
folded_field line = field_cut (position is_colon line) line

-- the fields of a text, in order
abbrev pub fields : List ℕ → List FieldText
fields text = filter_map folded_field (folded_lines text)

-- ---- the fields of a name

-- the fields of that name, whatever the case of its letters
abbrev pub fields_named : List ℕ → List FieldText → List FieldText
fields_named name fields = filter (λ field. str_eq_ignore_ascii_case field.0 name) fields

-- the bytes of a field
abbrev pub field_text : Field → FieldText
field_text field = (field.name.now, field.value.now)

-- none of the fields, the only one, or that there are more
abbrev pub TellsField : Result (Option Field) Twice → List FieldText → Type 0
TellsField (Ok None) fields = fields ≡ []
TellsField (Ok (Some field)) fields = fields ≡ field_text field ∷ []
TellsField (Err twice) fields = (a b : FieldText) × (others : List FieldText) × (fields ≡ a ∷ b ∷ others)
