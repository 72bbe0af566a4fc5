-- What the fields of a head say of a name.
use Rattle.std.proofs.Common.{◌≡◌, List, ℕ, [], ◌∷◌, refl}
use Rattle.std.specs.Str.{str_to_ascii_lowercase}
use Rattle.std.proofs.lemmas.Str.Ascii.{lowercase-lowercase}
use Rattle.as2_names.specs.Heads.{IsKept, field_of}
use Rattle.as2_names.proofs.Trimmed.{without_blanks_again}

lower_again : (text : List ℕ) → str_to_ascii_lowercase (str_to_ascii_lowercase text) ≡ str_to_ascii_lowercase text
lower_again [] = refl
lower_again (b ∷ rest) = rw (lowercase-lowercase b, lower_again rest) refl

pub field_kept : (name value : List ℕ) → IsKept (field_of name value)
field_kept name value = record { lower = lower_again name; bare = without_blanks_again value }
