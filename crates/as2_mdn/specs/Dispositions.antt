-- The value of a `Disposition` field (RFC 8098, section 3.2.6; RFC 4130, section 7.4.3): which value has which
-- disposition, and the first fault of a value that has none.
use Rattle.std.specs.Prelude.{◌≡◌, ◌≢◌, ◌⊎◌, ℕ, Bool, ◌&&◌, ◌||◌, not, ◌==◌, nat_le, List, [], ◌∷◌, ◌++◌, length, take, codes, if◌then◌else◌, IsTrue, Option, Some, None, Result, Ok, Err}
use Rattle.as2_names.specs.Ascii.{slash, semicolon}
use Rattle.as2_names.specs.Options.{is_word}
use Rattle.as2_names.specs.Trim.{trimmed_text}
use Rattle.as2_names.specs.Cuts.{Lacks, IsCutAt, cut_at}
use Rattle.as2_mdn.specs.declared.disposition.DispositionFault.{DispositionFault}
use Rattle.as2_mdn.specs.declared.disposition.DispositionFault.TheVariants as fault

-- a disposition: its type, and its modifier, which is empty where there is none
abbrev pub type_in_disposition : List ℕ × List ℕ → List ℕ
type_in_disposition disposition = disposition.0

abbrev pub modifier_of : List ℕ × List ℕ → List ℕ
modifier_of disposition = disposition.1

-- action-mode, with blanks and line ends around it
abbrev pub is_action_mode : List ℕ → Bool
is_action_mode text = is_word (trimmed_text text) (codes "manual-action") || is_word (trimmed_text text) (codes "automatic-action")

-- sending-mode, with blanks and line ends around it
abbrev pub is_sending_mode : List ℕ → Bool
is_sending_mode text = is_word (trimmed_text text) (codes "MDN-sent-manually") || is_word (trimmed_text text) (codes "MDN-sent-automatically")

-- `type/modifier`, with blanks and line ends around both
pub record IsModified (text : List ℕ) (disposition : List ℕ × List ℕ) : Type 0 where
  pub before : List ℕ
  pub behind : List ℕ
  pub cut : IsCutAt slash text before behind
  pub is_type : type_in_disposition disposition ≡ trimmed_text before
  pub is_modifier : modifier_of disposition ≡ trimmed_text behind

-- `type` alone, with blanks and line ends around it
pub record IsUnmodified (text : List ℕ) (disposition : List ℕ × List ℕ) : Type 0 where
  pub whole : Lacks slash text
  pub is_type : type_in_disposition disposition ≡ trimmed_text text
  pub no_modifier : modifier_of disposition ≡ []

-- The value has the disposition: an action mode, `/`, a sending mode, `;`, a type that isn't empty, and perhaps `/` and a
-- modifier, with blanks and line ends around each.
pub record IsDisposition (value : List ℕ) (disposition : List ℕ × List ℕ) : Type 0 where
  pub action : List ℕ
  pub sending : List ℕ
  pub typed : List ℕ
  pub whole : value ≡ action ++ slash ∷ sending ++ semicolon ∷ typed
  pub is_action : IsTrue (is_action_mode action)
  pub is_sending : IsTrue (is_sending_mode sending)
  pub is_typed : IsModified typed disposition ⊎ IsUnmodified typed disposition
  pub has_type : type_in_disposition disposition ≢ []

-- the modifier, if there is one
abbrev pub given_modifier : List ℕ × List ℕ → Option (List ℕ)
given_modifier disposition = if length (modifier_of disposition) == 0 then None else Some (modifier_of disposition)

-- there is a modifier
abbrev pub has_modifier : List ℕ × List ℕ → Bool
has_modifier disposition = not (length (modifier_of disposition) == 0)

-- the text begins with the word, without regard to the case of ASCII letters
abbrev pub begins_with : List ℕ → List ℕ → Bool
begins_with text word = nat_le (length word) (length text) && is_word (take (length word) text) word

-- the modifier is an error or a failure, be it only by its first letters
abbrev pub has_error : List ℕ × List ℕ → Bool
has_error disposition = begins_with (modifier_of disposition) (codes "error") || begins_with (modifier_of disposition) (codes "failure")

-- the type is `processed`
abbrev pub says_processed : List ℕ × List ℕ → Bool
says_processed disposition = is_word (type_in_disposition disposition) (codes "processed")

-- ---- the first fault

-- the type and the modifier of a text that is cut so at its first `/`
abbrev pub type_and_modifier : List ℕ → Option (List ℕ × List ℕ) → List ℕ × List ℕ
type_and_modifier text None = (trimmed_text text, [])
type_and_modifier text (Some p) = (trimmed_text p.0, trimmed_text p.1)

-- the disposition, unless its type is empty
abbrev pub with_type : List ℕ × List ℕ → Result (List ℕ × List ℕ) DispositionFault
with_type disposition = if length (type_in_disposition disposition) == 0 then Err fault.NoType else Ok disposition

-- a mode that is cut so at its first `/`, and what stands behind the `;`
abbrev pub with_mode : Option (List ℕ × List ℕ) → List ℕ → Result (List ℕ × List ℕ) DispositionFault
with_mode None typed = Err fault.NoMode
with_mode (Some p) typed =
    if is_action_mode p.0 && is_sending_mode p.1 then with_type (type_and_modifier typed (cut_at slash typed)) else Err fault.BadMode

-- a value that is cut so at its first `;`
abbrev pub with_both : Option (List ℕ × List ℕ) → Result (List ℕ × List ℕ) DispositionFault
with_both None = Err fault.NoMode
with_both (Some p) = with_mode (cut_at slash p.0) p.1

-- the disposition that a value has, or its first fault
abbrev pub disposition_reading : List ℕ → Result (List ℕ × List ℕ) DispositionFault
disposition_reading value = with_both (cut_at semicolon value)
