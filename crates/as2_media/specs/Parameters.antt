-- The parameters of a media type (RFC 2045, section 5.1), each behind a `;`, blanks and line ends between all.
use Rattle.std.specs.Prelude.{◌≡◌, ℕ, zero, suc, ◌-◌, ◌⊎◌, ◌==◌, List, [], ◌∷◌, ◌++◌, length, if◌then◌else◌, IsTrue, Option, Some, None, Result, Ok, Err}
use Rattle.std.specs.Str.{str_eq_ignore_ascii_case}
use Rattle.as2_names.specs.Ascii.{equals_sign}
use Rattle.as2_names.specs.Cuts.{cut_at}
use Rattle.as2_names.specs.Names.{with_front}
use Rattle.as2_names.specs.Trim.{trimmed_text, all_fall_off}
use Rattle.as2_media.specs.Bytes.{is_token}
use Rattle.as2_media.specs.Values.{SpellsValue, spelled_value}
use Rattle.as2_media.specs.declared.fault.TypeFault.{TypeFault}
use Rattle.as2_media.specs.declared.fault.TypeFault.TheVariants as fault

-- a parameter: its name and its value
abbrev pub parameter_name : List ℕ × List ℕ → List ℕ
parameter_name parameter = parameter.0

abbrev pub parameter_value : List ℕ × List ℕ → List ℕ
parameter_value parameter = parameter.1

-- the text is the inner one with blanks and line ends at its ends
pub record IsPadded (text inner : List ℕ) : Type 0 where
  pub front : List ℕ
  pub back : List ℕ
  pub whole : text ≡ front ++ inner ++ back
  pub blank_front : IsTrue (all_fall_off front)
  pub blank_back : IsTrue (all_fall_off back)

-- The text spells the parameter: its name, a token, then `=`, then a spelling of its value, blanks around each.
pub record SpellsParameter (text : List ℕ) (parameter : List ℕ × List ℕ) : Type 0 where
  pub left : List ℕ
  pub right : List ℕ
  pub spelled : List ℕ
  pub whole : text ≡ left ++ equals_sign ∷ right
  pub token : IsTrue (is_token (parameter_name parameter))
  pub named : IsPadded left (parameter_name parameter)
  pub spells : SpellsValue spelled (parameter_value parameter)
  pub given : IsPadded right spelled

-- The texts between the `;` spell the parameters in order; texts of blanks alone, the empty parameters, don't count.
abbrev pub Spell : List (List ℕ) → List (List ℕ × List ℕ) → Type 0
Spell [] parameters = parameters ≡ []
Spell (text ∷ texts) parameters =
    (IsTrue (all_fall_off text) × Spell texts parameters)
    ⊎ ((first : List ℕ × List ℕ) × (others : List (List ℕ × List ℕ)) × (parameters ≡ first ∷ others) × SpellsParameter text first × Spell texts others)

-- the value of the first parameter of a name, whatever the case of its letters
abbrev pub first_value : List ℕ → List (List ℕ × List ℕ) → Option (List ℕ)
first_value wanted [] = None
first_value wanted (parameter ∷ others) =
    if str_eq_ignore_ascii_case (parameter_name parameter) wanted then Some (parameter_value parameter) else first_value wanted others

-- ---- reading

-- the parameter of that name
abbrev pub with_name : List ℕ → Option (List ℕ) → Option (List ℕ × List ℕ)
with_name name None = None
with_name name (Some value) = Some (name, value)

-- the parameter whose name and value stand before and behind the `=`
abbrev pub parameter_of : Option (List ℕ × List ℕ) → Option (List ℕ × List ℕ)
parameter_of None = None
parameter_of (Some cut) =
    if is_token (trimmed_text cut.0) then with_name (trimmed_text cut.0) (spelled_value (trimmed_text cut.1)) else None

-- the parameter that a text spells
abbrev pub parameter : List ℕ → Option (List ℕ × List ℕ)
parameter text = parameter_of (cut_at equals_sign text)

-- the parameter, where there is room for it, and those behind it
abbrev pub and_then : ℕ → Option (List ℕ × List ℕ) → Result (List (List ℕ × List ℕ)) TypeFault → Result (List (List ℕ × List ℕ)) TypeFault
and_then zero first others = Err fault.TooMany
and_then (suc room) None others = Err fault.BadParameter
and_then (suc room) (Some first) others = with_front (first ∷ []) others

-- the parameters that the texts between the `;` spell, so many at most, or the first fault
abbrev pub parameters : ℕ → List (List ℕ) → Result (List (List ℕ × List ℕ)) TypeFault
parameters room [] = Ok []
parameters room (text ∷ texts) =
    if length (trimmed_text text) == 0 then parameters room texts
    else and_then room (parameter text) (parameters (room - 1) texts)
