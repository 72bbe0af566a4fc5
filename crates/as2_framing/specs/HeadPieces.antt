-- A head whose bytes come in pieces (RFC 9112, sections 2.1 and 2.2).
use Rattle.std.specs.Prelude.{◌≡◌, ℕ, ◌+◌, ◌<◌, ◌≤◌, List, [], ◌++◌, length, drop, Option, None, Some, ⊤}
use Rattle.as2_framing.specs.HeadText.{unblank, up_to_empty_line, head_limit, HasHeadText, HasNoHeadText}
use Rattle.as2_framing.specs.Scanning.{line_in}
use Rattle.as2_framing.specs.declared.scan.LineSoFar.TheVariants.{Nothing}
use Rattle.as2_framing.specs.declared.head_bytes.HeadBytes.{HeadBytes}
use Rattle.as2_framing.specs.declared.head_bytes.HeadPiece.{HeadPiece}
use Rattle.as2_framing.specs.declared.head_bytes.HeadPiece.TheVariants as piece

-- these bytes are kept of a text: those behind the CR and LF at its front, in which no empty line ends
pub record HoldsText (h : HeadBytes) (text : List ℕ) : Type 0 where
  pub behind : unblank text ≡ h.text.items
  pub counted : h.skipped + length h.text.items ≡ length text
  pub none : up_to_empty_line h.text.items ≡ None
  pub line : line_in Nothing h.text.items ≡ h.line

-- no head ends in the text, and one still may
pub record HoldsHead (h : HeadBytes) (text : List ℕ) : Type 0 where
  pub holds : HoldsText h text
  pub short : length text < head_limit

-- with so many of its bytes a piece goes on with the CR and LF at the front of a text, of which these bytes are kept
abbrev pub LeavesRest : List ℕ → List ℕ → ℕ → Type 0
LeavesRest kept front blank = (kept ≡ [] → drop blank front ≡ unblank front) × (¬ (kept ≡ []) → blank ≡ 0)

-- so many bytes of a piece end the head, which is kept
pub record EndsHead (h : HeadBytes) (text bytes : List ℕ) (n : ℕ) : Type 0 where
  pub some : 0 < n
  pub within : n ≤ length bytes
  pub found : HasHeadText (text ++ bytes) h.text.items (drop n bytes)

-- with these bytes more no head ends, or one ends behind so many of them
abbrev pub Adds : HeadBytes → List ℕ → List ℕ → Option ℕ → Type 0
Adds h text front None = HoldsText h (text ++ front)
Adds h text front (Some n) = EndsHead h text front n

-- what a piece does to a head
abbrev pub FeedsHead : HeadBytes → List ℕ → List ℕ → HeadPiece → Type 0
FeedsHead h text bytes piece.Open = HoldsHead h (text ++ bytes)
FeedsHead h text bytes (piece.Whole n) = EndsHead h text bytes n
FeedsHead h text bytes piece.TooLong = HasNoHeadText (text ++ bytes) × (head_limit ≤ length (text ++ bytes))

-- a head ends within so many bytes
abbrev pub PieceWithin : ℕ → HeadPiece → Type 0
PieceWithin size piece.Open = ⊤
PieceWithin size (piece.Whole n) = n ≤ size
PieceWithin size piece.TooLong = ⊤
