-- The value of a `Disposition-Notification-Options` field (RFC 8098, section 2.2; RFC 4130, section 7.3): parameters that
-- semicolons part, each `name=importance, value, value..`.
use Rattle.std.specs.Prelude.{◌≡◌, ℕ, ◌⊎◌, Bool, true, false, ◌&&◌, ◌||◌, not, ◌==◌, List, [], ◌∷◌, length, codes, if◌then◌else◌, IsTrue, IsFalse, filter_map, Option, Some, None}
use Rattle.std.specs.List.{list_all, list_any, slice_split}
use Rattle.std.specs.Option.{is_some}
use Rattle.std.specs.Str.{str_eq_ignore_ascii_case}
use Rattle.as2_media.specs.Bytes.{is_token}
use Rattle.as2_names.specs.Ascii.{comma, equals_sign, semicolon}
use Rattle.as2_names.specs.Blanks.{without_blanks}
use Rattle.as2_names.specs.Cuts.{IsCutAt, cut_at}
use Rattle.as2_names.specs.Options.{is_comma}
use Rattle.as2_text.specs.declared.receipt_option.Importance.{Importance}
use Rattle.as2_text.specs.declared.receipt_option.Importance.TheVariants as importance

-- an option: its name, its importance, and its values as one text
pub record ReceiptOption : Type 0 where
  pub name : List ℕ
  pub importance : Importance
  pub values : List ℕ

-- the word says that importance, whatever the case of its letters
abbrev pub importance_of : List ℕ → Option Importance
importance_of word =
    if str_eq_ignore_ascii_case word (codes "required") then Some importance.Required
    else if str_eq_ignore_ascii_case word (codes "optional") then Some importance.Optional
    else None

-- nothing but blanks
abbrev pub is_empty : List ℕ → Bool
is_empty text = length (without_blanks text) == 0

-- no value between the commas is empty
abbrev pub are_values : List ℕ → Bool
are_values text = list_all (λ value. not (is_empty value)) (slice_split is_comma text)

-- The parameter is the option: a name, `=`, an importance, `,` and values, with blanks anywhere between them.
pub record IsOption (parameter : List ℕ) (option : ReceiptOption) : Type 0 where
  pub before_equals : List ℕ
  pub behind_equals : List ℕ
  pub word : List ℕ
  pub given : List ℕ
  pub equals : IsCutAt equals_sign parameter before_equals behind_equals
  pub comma : IsCutAt comma behind_equals word given
  pub name : option.name ≡ without_blanks before_equals
  pub is_name : IsTrue (is_token option.name)
  pub importance : importance_of (without_blanks word) ≡ Some option.importance
  pub values : option.values ≡ without_blanks given
  pub are_values : IsTrue (are_values given)

-- The parameters are the options in order; one of blanks alone is empty, and is skipped.
abbrev pub AreOptions : List (List ℕ) → List ReceiptOption → Type 0
AreOptions [] options = options ≡ []
AreOptions (parameter ∷ rest) options =
    (IsTrue (is_empty parameter) × AreOptions rest options)
    ⊎ (IsFalse (is_empty parameter) × ((option : ReceiptOption) × (others : List ReceiptOption) × (options ≡ option ∷ others) × IsOption parameter option × AreOptions rest others))

abbrev pub is_semicolon : ℕ → Bool
is_semicolon b = b == semicolon

-- the option has that name, whatever the case of its letters
abbrev pub has_name : List ℕ → ReceiptOption → Bool
has_name name option = str_eq_ignore_ascii_case option.name name

-- no two have one name
abbrev pub are_distinct : List ReceiptOption → Bool
are_distinct [] = true
are_distinct (option ∷ rest) = not (list_any (has_name option.name) rest) && are_distinct rest

-- The field's value says these options: so its parameters do, and no name stands there twice.
pub record IsOptions (value : List ℕ) (options : List ReceiptOption) : Type 0 where
  pub are : AreOptions (slice_split is_semicolon value) options
  pub distinct : IsTrue (are_distinct options)

-- ---- what the options ask

-- the first option of that name
abbrev pub first_named : List ℕ → List ReceiptOption → Option ReceiptOption
first_named name [] = None
first_named name (option ∷ rest) = if has_name name option then Some option else first_named name rest

abbrev pub is_required : Importance → Bool
is_required importance.Required = true
is_required importance.Optional = false

-- the parameter that lists digests (RFC 4130, section 7.3)
abbrev pub micalg : List ℕ
micalg = codes "signed-receipt-micalg"

-- the digests that are listed, nothing where none are
abbrev pub digests_of : Option ReceiptOption → List ℕ
digests_of None = []
digests_of (Some option) = option.values

-- one of the listed digests is required
abbrev pub digests_required : Option ReceiptOption → Bool
digests_required None = false
digests_required (Some option) = is_required option.importance

-- another option, and required
abbrev pub is_other_required : ReceiptOption → Bool
is_other_required option = is_required option.importance && not (has_name micalg option)

-- ---- reading

-- the option of a name, an importance and values
abbrev pub option_with : List ℕ → Option Importance → List ℕ → Option ReceiptOption
option_with name None values = None
option_with name (Some importance) values =
    if is_token name && are_values values
    then Some (record { name = name; importance = importance; values = without_blanks values })
    else None

-- the option of a name and what stands behind its `=`, which is cut at the first comma
abbrev pub option_behind : List ℕ → Option (List ℕ × List ℕ) → Option ReceiptOption
option_behind name None = None
option_behind name (Some cut) = option_with name (importance_of (without_blanks cut.0)) cut.1

-- the option of a parameter that is cut at its first `=`
abbrev pub option_cut : Option (List ℕ × List ℕ) → Option ReceiptOption
option_cut None = None
option_cut (Some cut) = option_behind (without_blanks cut.0) (cut_at comma cut.1)

-- the option that a parameter is, if it is one
abbrev pub option_of : List ℕ → Option ReceiptOption
option_of parameter = if is_empty parameter then None else option_cut (cut_at equals_sign parameter)

-- the parameter is empty or an option
abbrev pub is_readable : List ℕ → Bool
is_readable parameter = is_empty parameter || is_some (option_of parameter)

-- the options among the parameters of a value
abbrev pub options_in : List ℕ → List ReceiptOption
options_in value = filter_map option_of (slice_split is_semicolon value)

-- the value says options
abbrev pub are_options : List ℕ → Bool
are_options value = list_all is_readable (slice_split is_semicolon value) && are_distinct (options_in value)

-- the option, where it has that name
abbrev pub where_named : List ℕ → Option ReceiptOption → Option ReceiptOption
where_named name None = None
where_named name (Some option) = if has_name name option then Some option else None

-- another has the name of the option
abbrev pub named_again : Option ReceiptOption → List ReceiptOption → Bool
named_again None others = false
named_again (Some option) others = list_any (has_name option.name) others

-- the parameter is an option other than the one that lists digests, and required
abbrev pub is_required_other : Option ReceiptOption → Bool
is_required_other None = false
is_required_other (Some option) = is_other_required option
