-- How frames are spelled. Each has one spelling.
use Rattle.std.specs.Prelude.{◌≡◌, ℕ, ◌≤◌, List, [], ◌∷◌, ◌++◌, codes, length}
use Rattle.std.specs.Int.{to_be_bytes, w32}

-- a length: four bytes, the most significant first
unfoldable pub length_text : ℕ → List ℕ
length_text count = to_be_bytes w32 count

-- a field: its length and its bytes
abbrev pub framed_field : List ℕ → List ℕ
framed_field bytes = length_text (length bytes) ++ bytes

-- the line that each frame opens with
unfoldable pub opening_line : List ℕ
opening_line = codes "as2desk 1" ++ 10 ∷ []

-- a frame's head, where so many bytes follow it
abbrev pub head_text : ℕ → List ℕ
head_text count = opening_line ++ length_text count

-- a frame: its head and its body
abbrev pub frame_text : List ℕ → List ℕ
frame_text body = head_text (length body) ++ body

-- the text is the frame of that body, which has at most so many bytes
pub record IsFrameOf (most : ℕ) (text body : List ℕ) : Type 0 where
  pub whole : text ≡ frame_text body
  pub within : length body ≤ most

-- the text is a frame, with at most so many bytes behind its head
abbrev pub IsFrame : ℕ → List ℕ → Type 0
IsFrame most text = (body : List ℕ) × IsFrameOf most text body
