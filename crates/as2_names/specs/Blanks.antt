-- Blanks (OWS of RFC 9110, section 5.6.3), and a text without those at its ends.
use Rattle.std.specs.Prelude.{ℕ, Bool, ◌||◌, ◌==◌, List, [], ◌∷◌, reverse, if◌then◌else◌}
use Rattle.as2_names.specs.Ascii.{space, tab}

-- a space or a tab
abbrev pub is_blank : ℕ → Bool
is_blank b = b == space || b == tab

-- the text from its first byte that is no blank
abbrev pub skip_blanks : List ℕ → List ℕ
skip_blanks [] = []
skip_blanks (b ∷ rest) = if is_blank b then skip_blanks rest else b ∷ rest

-- the text without the blanks at both ends
unfoldable pub without_blanks : List ℕ → List ℕ
without_blanks text = reverse (skip_blanks (reverse (skip_blanks text)))
