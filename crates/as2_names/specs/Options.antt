-- The members of a field's value, which commas part (RFC 9110, section 5.6.1).
use Rattle.std.specs.Prelude.{ℕ, Bool, ◌==◌, List}
use Rattle.std.specs.List.{list_any, slice_split}
use Rattle.std.specs.Str.{str_eq_ignore_ascii_case}
use Rattle.as2_names.specs.Ascii.{comma}
use Rattle.as2_names.specs.Blanks.{without_blanks}

abbrev pub is_comma : ℕ → Bool
is_comma b = b == comma

-- the text is the word, without regard to the case of ASCII letters
abbrev pub is_word : List ℕ → List ℕ → Bool
is_word text word = str_eq_ignore_ascii_case text word

-- the member, without the blanks around it, is that option, whatever the case of its letters
abbrev pub is_option : List ℕ → List ℕ → Bool
is_option option member = is_word (without_blanks member) option

-- the value has the option among its members
abbrev pub lists : List ℕ → List ℕ → Bool
lists option value = list_any (is_option option) (slice_split is_comma value)
