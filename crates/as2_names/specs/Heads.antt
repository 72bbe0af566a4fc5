-- Heads of messages: the fields in order (RFC 9110, section 5), and the values that a name has.
use Rattle.std.specs.Prelude.{◌≡◌, ℕ, ◌⊎◌, Bool, ◌&&◌, ◌||◌, not, ◌==◌, nat_lt, nat_le, List, [], ◌∷◌, length, codes, ⊤, if◌then◌else◌, Option, Some, None, Result, Ok, Err}
use Rattle.std.specs.List.{list_all, list_any}
use Rattle.std.specs.Char.{is_ascii_alphanumeric}
use Rattle.std.specs.Str.{bytes_eq, str_to_ascii_lowercase}
use Rattle.as2_names.specs.Ascii.{space, tab, del}
use Rattle.as2_names.specs.Blanks.{without_blanks}
use Rattle.as2_names.specs.declared.head.HeadFault.{HeadFault}
use Rattle.as2_names.specs.declared.head.HeadFault.TheVariants as fault
use Rattle.as2_names.specs.declared.head.Once.{Once}
use Rattle.as2_names.specs.declared.head.Once.TheVariants as once

-- tchar: a byte of a field's name (RFC 9110, section 5.6.2)
abbrev pub is_name_byte : ℕ → Bool
is_name_byte b = is_ascii_alphanumeric b || list_any (λ c. c == b) (codes "!#$%&'*+-.^_`|~")

-- a field's name
abbrev pub is_name : List ℕ → Bool
is_name name = nat_lt 0 (length name) && nat_le (length name) 16384 && list_all is_name_byte name

-- a byte of a field's value: no control byte but the tab (RFC 9110, section 5.5)
abbrev pub is_value_byte : ℕ → Bool
is_value_byte b = b == tab || (nat_le space b && not (b == del))

-- the name and the value may stand in a field
abbrev pub is_field : List ℕ → List ℕ → Bool
is_field name value = is_name name && list_all is_value_byte value

-- a field as a head keeps it: its name in lower case, its value without blanks at its ends
abbrev pub field_of : List ℕ → List ℕ → List ℕ × List ℕ
field_of name value = (str_to_ascii_lowercase name, without_blanks value)

-- a field is kept so
pub record IsKept (field : List ℕ × List ℕ) : Type 0 where
  pub lower : str_to_ascii_lowercase field.0 ≡ field.0
  pub bare : without_blanks field.1 ≡ field.1

-- the values, in order, of the fields of a name in lower case
abbrev pub values : List ℕ → List (List ℕ × List ℕ) → List (List ℕ)
values name [] = []
values name (field ∷ rest) = if bytes_eq field.0 name then field.1 ∷ values name rest else values name rest

-- none of the values, the only one, or that there are more
abbrev pub IsOnceOf : Once → List (List ℕ) → Type 0
IsOnceOf once.Absent vs = vs ≡ []
IsOnceOf (once.One v) vs = vs ≡ v.now ∷ []
IsOnceOf once.Twice vs = (a b : List ℕ) × (others : List (List ℕ)) × (vs ≡ a ∷ b ∷ others)

-- the value that is told, if there is one, has no blanks at its ends
abbrev pub IsTrimmed : Once → Type 0
IsTrimmed (once.One v) = without_blanks v.now ≡ v.now
IsTrimmed told = ⊤

-- ---- adding a field

-- why the field can't be added, if it can't
abbrev pub append_fault : List ℕ → List ℕ → List (List ℕ × List ℕ) → Option HeadFault
append_fault name value head =
    if not (is_field name value) then Some fault.BadField
    else if nat_le 64 (length head) then Some fault.TooMany
    else None

-- the answer is the fault, or there is none; where there is none, memory may be wanting
abbrev pub FailsBy : {A : Type 0} → Result A HeadFault → Option HeadFault → Type 0
FailsBy (Ok done) first = first ≡ None
FailsBy (Err e) first = (first ≡ Some e) ⊎ ((first ≡ None) × (e ≡ fault.Memory))
