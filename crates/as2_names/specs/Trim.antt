-- The blanks and line ends at the ends of a text (RFC 5322, section 2.2). A line end is LF, with the CR just before it if
-- there is one, so that a CR without LF is neither.
use Rattle.std.specs.Prelude.{ℕ, Bool, true, false, ◌||◌, ◌&&◌, ◌==◌, List, [], ◌∷◌, if◌then◌else◌}
use Rattle.as2_names.specs.Ascii.{line_feed, carriage_return}
use Rattle.as2_names.specs.Blanks.{is_blank}

-- the text begins with LF
abbrev pub begins_with_lf : List ℕ → Bool
begins_with_lf [] = false
begins_with_lf (b ∷ rest) = b == line_feed

-- the byte, with that text behind it, is a blank or is of a line end
abbrev pub falls_off : ℕ → List ℕ → Bool
falls_off b rest = is_blank b || (b == line_feed || (b == carriage_return && begins_with_lf rest))

-- the text is nothing but blanks and line ends
abbrev pub all_fall_off : List ℕ → Bool
all_fall_off [] = true
all_fall_off (b ∷ rest) = falls_off b rest && all_fall_off rest

abbrev pub without_front : List ℕ → List ℕ
without_front [] = []
without_front (b ∷ rest) = if falls_off b rest then without_front rest else b ∷ rest

abbrev pub without_back : List ℕ → List ℕ
without_back [] = []
without_back (b ∷ rest) = if all_fall_off (b ∷ rest) then [] else b ∷ without_back rest

-- the text without the blanks and line ends at its ends
abbrev pub trimmed_text : List ℕ → List ℕ
trimmed_text text = without_back (without_front text)
