-- The two parts of a multipart body (RFC 2046, section 5.1.1), and the first fault of a body that hasn't two.
use Rattle.std.specs.Prelude.{◌≡◌, ℕ, ◌+◌, ◌⊎◌, Bool, not, ◌==◌, List, [], ◌∷◌, ◌++◌, if◌then◌else◌, All, Any, Option, Some, None, Result, Ok, Err}
use Rattle.std.specs.List.{concat, list_any}
use Rattle.std.specs.Result.{result_map_both}
use Rattle.as2_parts.specs.declared.parts.Part.{Part}
use Rattle.as2_parts.specs.declared.parts.PartFault.{PartFault}
use Rattle.as2_parts.specs.declared.parts.PartFault.TheVariants.{NoDelimiter, OnePart, NotClosed}
use Rattle.as2_parts.specs.Lines.{lines, is_empty_line, without_line_end, IsDelimiter, IsClosing, is_delimiter, is_closing, is_mark}

-- what stands before the first empty line and what stands behind it; without one all stands before
abbrev pub cut_at_empty_line : List (List ℕ) → List ℕ × List ℕ
cut_at_empty_line [] = ([], [])
cut_at_empty_line (line ∷ rest) =
    if is_empty_line line then ([], concat rest) else (line ++ (cut_at_empty_line rest).0, (cut_at_empty_line rest).1)

-- a part: its head and its content
abbrev pub PartText : Type 0
PartText = List ℕ × List ℕ

-- the part that is written in a text
abbrev pub part_in : List ℕ → PartText
part_in text = cut_at_empty_line (lines text)

-- the part between two delimiters: the line end before the second belongs to it
abbrev pub part_of : List (List ℕ) → PartText
part_of section = part_in (without_line_end (concat section))

-- a delimiter or the closing line
abbrev pub IsMark : List ℕ → List ℕ → Type 0
IsMark boundary line = IsDelimiter boundary line ⊎ IsClosing boundary line

abbrev pub HasNoMark : List ℕ → List (List ℕ) → Type 0
HasNoMark boundary section = All (λ line. ¬ IsMark boundary line) section

-- The body is a preamble, a delimiter, a first part, a delimiter, a second part and a rest. The rest begins with a
-- delimiter or the closing line, and has a closing line. No line of the preamble and of the two parts is either.
pub record IsTwoParts (boundary body : List ℕ) (first second : PartText) : Type 0 where
  pub preamble : List (List ℕ)
  pub opening : List ℕ
  pub first_lines : List (List ℕ)
  pub between : List ℕ
  pub second_lines : List (List ℕ)
  pub next : List ℕ
  pub rest : List (List ℕ)
  pub whole : lines body ≡ preamble ++ opening ∷ (first_lines ++ between ∷ (second_lines ++ next ∷ rest))
  pub opens : IsDelimiter boundary opening
  pub parts : IsDelimiter boundary between
  pub ends : IsMark boundary next
  pub closed : Any (IsClosing boundary) (next ∷ rest)
  pub before : HasNoMark boundary preamble
  pub in_first : HasNoMark boundary first_lines
  pub in_second : HasNoMark boundary second_lines
  pub first_part : first ≡ part_of first_lines
  pub second_part : second ≡ part_of second_lines

-- ---- the first fault

-- the lines before the first delimiter or closing line
abbrev pub before_mark : List ℕ → List (List ℕ) → List (List ℕ)
before_mark boundary [] = []
before_mark boundary (line ∷ rest) = if is_mark boundary line then [] else line ∷ before_mark boundary rest

-- that line, if there is one, and the lines behind it
abbrev pub from_mark : List ℕ → List (List ℕ) → List (List ℕ)
from_mark boundary [] = []
from_mark boundary (line ∷ rest) = if is_mark boundary line then line ∷ rest else from_mark boundary rest

-- the answer of a body, behind its first part
abbrev pub behind_first : List ℕ → PartText → List (List ℕ) → Result (PartText × PartText) PartFault
behind_first boundary first [] = Err OnePart
behind_first boundary first (mark ∷ rest) =
    if is_closing boundary mark then Err OnePart else Ok (first, part_of (before_mark boundary rest))

-- the answer of a body, behind its preamble
abbrev pub behind_preamble : List ℕ → List (List ℕ) → Result (PartText × PartText) PartFault
behind_preamble boundary [] = Err NoDelimiter
behind_preamble boundary (mark ∷ rest) =
    if is_closing boundary mark then Err NoDelimiter
    else if list_any (is_closing boundary) rest then
    behind_first boundary (part_of (before_mark boundary rest)) (from_mark boundary rest)
    else Err NotClosed

-- the two parts of a body, or its first fault
abbrev pub parts_reading : List ℕ → List ℕ → Result (PartText × PartText) PartFault
parts_reading boundary body = behind_preamble boundary (from_mark boundary (lines body))

-- how many delimiters stand before the first closing line
abbrev pub delimiters : List ℕ → List (List ℕ) → ℕ
delimiters boundary [] = 0
delimiters boundary (line ∷ rest) =
    if is_closing boundary line then 0
    else if is_delimiter boundary line then 1 + delimiters boundary rest
    else delimiters boundary rest

-- the fault of a body that has so many, and has a closing line or has none
abbrev pub delimiter_fault : ℕ → Bool → Option PartFault
delimiter_fault count closed =
    if count == 0 then Some NoDelimiter
    else if not closed then Some NotClosed
    else if count == 1 then Some OnePart
    else None

-- why a body hasn't two parts, if it hasn't
abbrev pub part_fault : List ℕ → List ℕ → Option PartFault
part_fault boundary body = delimiter_fault (delimiters boundary (lines body)) (list_any (is_closing boundary) (lines body))

-- ---- what the code hands out

-- the bytes of a part
abbrev pub part_text : Part → PartText
part_text part = (part.head.now, part.content.now)

-- the bytes of an answer
abbrev pub parts_result : Result (Part × Part) PartFault → Result (PartText × PartText) PartFault
parts_result result = result_map_both (λ parts. (part_text parts.0, part_text parts.1)) (λ fault. fault) result
