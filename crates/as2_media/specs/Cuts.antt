-- Texts that are cut at each `;` outside quotes.
use Rattle.std.specs.Prelude.{ℕ, Bool, false, ◌==◌, List, [], ◌∷◌, if◌then◌else◌, Option, Some, None}
use Rattle.std.specs.List.{onto_first}
use Rattle.as2_names.specs.Ascii.{quote, semicolon, backslash}
use Rattle.as2_media.specs.declared.cuts.Place.{Place}
use Rattle.as2_media.specs.declared.cuts.Place.TheVariants.{Outside, Quoted, Escaped}

-- the place behind a byte
abbrev pub next_place : Place → ℕ → Place
next_place Outside b = if b == quote then Quoted else Outside
next_place Quoted b = if b == backslash then Escaped else if b == quote then Outside else Quoted
next_place Escaped b = Quoted

-- outside quotes it is a `;`
abbrev pub is_end : Place → ℕ → Bool
is_end Outside b = b == semicolon
is_end Quoted b = false
is_end Escaped b = false

-- the texts between each `;` outside quotes, from a place on
abbrev pub segments : Place → List ℕ → List (List ℕ)
segments place [] = [] ∷ []
segments place (b ∷ rest) = if is_end place b then [] ∷ segments Outside rest else onto_first b (segments (next_place place b) rest)

-- no text has no segment
abbrev pub segments_of : Option (List ℕ) → List (List ℕ)
segments_of None = []
segments_of (Some text) = segments Outside text
