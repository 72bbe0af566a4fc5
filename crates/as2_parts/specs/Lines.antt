-- Lines of a text (RFC 5322, section 2.1), and the lines that part a multipart body (RFC 2046, section 5.1.1).
use Rattle.std.specs.Prelude.{◌≡◌, ℕ, Bool, false, ◌||◌, ◌==◌, List, [], ◌∷◌, ◌++◌, reverse, if◌then◌else◌, IsTrue, Option, Some, None, bytes_eq}
use Rattle.std.specs.List.{list_all, onto_first}
use Rattle.as2_names.specs.Ascii.{line_feed, carriage_return, hyphen}
use Rattle.as2_names.specs.Blanks.{is_blank}

-- the lines, each with its line end: the text is cut behind each LF
abbrev pub lines : List ℕ → List (List ℕ)
lines [] = []
lines (b ∷ rest) = if b == line_feed then (b ∷ []) ∷ lines rest else onto_first b (lines rest)

-- the line is empty: LF, or CR LF, and nothing else
abbrev pub is_empty_line : List ℕ → Bool
is_empty_line line = bytes_eq line (line_feed ∷ []) || bytes_eq line (carriage_return ∷ line_feed ∷ [])

-- read from behind: without a CR at the front
abbrev pub without_return : List ℕ → List ℕ
without_return [] = []
without_return (b ∷ before) = if b == carriage_return then before else b ∷ before

-- read from behind: without an LF at the front, and the CR behind it
abbrev pub without_feed : List ℕ → List ℕ
without_feed [] = []
without_feed (b ∷ before) = if b == line_feed then without_return before else b ∷ before

-- the text without the line end at its end: LF, with the CR just before it if there is one
abbrev pub without_line_end : List ℕ → List ℕ
without_line_end text = reverse (without_feed (reverse text))

-- ---- the lines that part a body

abbrev pub IsBlanks : List ℕ → Type 0
IsBlanks text = IsTrue (list_all is_blank text)

-- delimiter = "--" boundary blanks
abbrev pub IsDelimiter : List ℕ → List ℕ → Type 0
IsDelimiter boundary line = (blanks : List ℕ) × IsBlanks blanks × (without_line_end line ≡ hyphen ∷ hyphen ∷ boundary ++ blanks)

-- closing line = "--" boundary "--" blanks
abbrev pub IsClosing : List ℕ → List ℕ → Type 0
IsClosing boundary line =
    (blanks : List ℕ) × IsBlanks blanks × (without_line_end line ≡ hyphen ∷ hyphen ∷ boundary ++ hyphen ∷ hyphen ∷ blanks)

-- ---- the same as tests

-- what stands behind that front of the text, if it begins so
abbrev pub behind : List ℕ → List ℕ → Option (List ℕ)
behind [] text = Some text
behind (f ∷ front) [] = None
behind (f ∷ front) (b ∷ text) = if b == f then behind front text else None

-- what stands behind "--" boundary in the line, if it begins so
abbrev pub behind_boundary : List ℕ → List ℕ → Option (List ℕ)
behind_boundary boundary line = behind (hyphen ∷ hyphen ∷ boundary) (without_line_end line)

-- there is a text, and it is blanks
abbrev pub is_blanks : Option (List ℕ) → Bool
is_blanks (Some text) = list_all is_blank text
is_blanks None = false

-- there is a text, and it is "--" blanks
abbrev pub is_hyphens : Option (List ℕ) → Bool
is_hyphens (Some text) = is_blanks (behind (hyphen ∷ hyphen ∷ []) text)
is_hyphens None = false

abbrev pub is_delimiter : List ℕ → List ℕ → Bool
is_delimiter boundary line = is_blanks (behind_boundary boundary line)

abbrev pub is_closing : List ℕ → List ℕ → Bool
is_closing boundary line = is_hyphens (behind_boundary boundary line)

-- a delimiter or the closing line
abbrev pub is_mark : List ℕ → List ℕ → Bool
is_mark boundary line = is_delimiter boundary line || is_closing boundary line
