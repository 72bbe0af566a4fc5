-- The chunked body that a text begins with (RFC 9112, section 7.1), a fault in its place, or neither yet.
use Rattle.std.specs.Prelude.{◌≡◌, ◌⊎◌, ℕ, ◌+◌, ◌<◌, ◌≤◌, List, [], ◌∷◌, ◌++◌, length, take, drop, Some}
use Rattle.std.specs.List.{concat}
use Rattle.httparse.specs.Grammar.{ChunkLine, ReadsChunkLine, print_chunk_line, chunk_size}
use Rattle.as2_names.specs.Ascii.{line_feed, carriage_return}
use Rattle.as2_framing.specs.HeadText.{up_to_empty_line}

-- the bytes in which a chunk line has to end
abbrev pub line_limit : ℕ
line_limit = 1024

-- .. and those in which the trailer has to
abbrev pub trailer_limit : ℕ
trailer_limit = 16384

-- the most bytes that a body may have
abbrev pub body_limit : ℕ
body_limit = 1048576

-- ---- the grammar

-- a chunk line that says this size stands at the front of the text, ends within its limit, and then comes what follows
pub record HasLine (text : List ℕ) (size : ℕ) (after : List ℕ) : Type 0 where
  pub line : ChunkLine
  pub reads : ReadsChunkLine text line after
  pub short : length (print_chunk_line line) ≤ line_limit
  pub says : chunk_size line ≡ size

-- a chunk: its line, these bytes, at least one, and CR LF
pub record HasChunk (text bytes after : List ℕ) : Type 0 where
  pub behind : List ℕ
  pub line : HasLine text (length bytes) behind
  pub some : 0 < length bytes
  pub follows : behind ≡ bytes ++ carriage_return ∷ line_feed ∷ after

-- chunks with these bytes, one after the other
abbrev pub HasChunks : List (List ℕ) → List ℕ → List ℕ → Type 0
HasChunks [] text rest = text ≡ rest
HasChunks (bytes ∷ more) text rest = (mid : List ℕ) × HasChunk text bytes mid × HasChunks more mid rest

-- a trailer: all up to the first empty line, and that line too; nobody looks at it
abbrev pub HasTrailer : List ℕ → List ℕ → Type 0
HasTrailer text rest = (n : ℕ) × (up_to_empty_line (take trailer_limit text) ≡ Some n) × (rest ≡ drop n text)

-- whole chunks with these bytes, not too many, stand in front of what follows
pub record IsBehind (text after bytes : List ℕ) : Type 0 where
  pub chunks : List (List ℕ)
  pub all : HasChunks chunks text after
  pub joined : bytes ≡ concat chunks
  pub short : length bytes ≤ body_limit

-- the text begins with a chunked body of these bytes: chunks, a line that says 0, a trailer; and then comes the rest
pub record BeginsChunked (text body rest : List ℕ) : Type 0 where
  pub last : List ℕ
  pub trailer : List ℕ
  pub behind : IsBehind text last body
  pub line : HasLine last 0 trailer
  pub ends : HasTrailer trailer rest

-- ---- what stands there, what may come, and what never comes

abbrev pub HasNoLine : List ℕ → Type 0
HasNoLine text = (size : ℕ) (after : List ℕ) → ¬ HasLine text size after

abbrev pub MayHaveLine : List ℕ → Type 0
MayHaveLine text = (more : List ℕ) × (size : ℕ) × (after : List ℕ) × HasLine (text ++ more) size after

abbrev pub NeverHasLine : List ℕ → Type 0
NeverHasLine text = (more : List ℕ) → HasNoLine (text ++ more)

abbrev pub HasNoTrailer : List ℕ → Type 0
HasNoTrailer text = (rest : List ℕ) → ¬ HasTrailer text rest

abbrev pub MayHaveTrailer : List ℕ → Type 0
MayHaveTrailer text = (more : List ℕ) × (rest : List ℕ) × HasTrailer (text ++ more) rest

abbrev pub NeverHasTrailer : List ℕ → Type 0
NeverHasTrailer text = (more : List ℕ) → HasNoTrailer (text ++ more)

-- CR LF stands neither there nor is it to come
abbrev pub NeverEndsLine : List ℕ → Type 0
NeverEndsLine text = (more rest : List ℕ) → ¬ (text ++ more ≡ carriage_return ∷ line_feed ∷ rest)

-- ---- no chunked body, or none yet

-- a line takes the sum of the sizes past the limit
pub record IsTooLarge (text : List ℕ) : Type 0 where
  pub at : List ℕ
  pub bytes : List ℕ
  pub size : ℕ
  pub after : List ℕ
  pub behind : IsBehind text at bytes
  pub line : HasLine at size after
  pub large : body_limit < length bytes + size

-- The text can't become a chunked body any more, however it goes on. Behind whole chunks stands no chunk line, a chunk behind
-- which no CR LF comes, or a trailer that is too long.
pub data IsBadChunk (text : List ℕ) : Type 0 where
  bad_line : (at bytes : List ℕ) (behind : IsBehind text at bytes) (never : NeverHasLine at) → IsBadChunk text
  bad_end : (at bytes chunk after rest : List ℕ) (behind : IsBehind text at bytes) (line : HasLine at (length chunk) after) (some : 0 < length chunk)
      (fits : length bytes + length chunk ≤ body_limit) (follows : after ≡ chunk ++ rest) (never : NeverEndsLine rest) → IsBadChunk text
  bad_trailer : (at bytes trailer : List ℕ) (behind : IsBehind text at bytes) (line : HasLine at 0 trailer) (never : NeverHasTrailer trailer) → IsBadChunk text

-- the text ends before its chunked body does: in a line, in the bytes of a chunk, behind them, or in the trailer
pub data IsOpenChunked (text : List ℕ) : Type 0 where
  in_line : (at bytes : List ℕ) (behind : IsBehind text at bytes) (none : HasNoLine at) (may : MayHaveLine at) → IsOpenChunked text
  in_bytes : (at bytes : List ℕ) (size : ℕ) (after : List ℕ) (behind : IsBehind text at bytes) (line : HasLine at size after)
      (fits : length bytes + size ≤ body_limit) (short : length after < size) → IsOpenChunked text
  in_end : (at bytes chunk after rest : List ℕ) (behind : IsBehind text at bytes) (line : HasLine at (length chunk) after) (some : 0 < length chunk)
      (fits : length bytes + length chunk ≤ body_limit) (follows : after ≡ chunk ++ rest) (less : (rest ≡ []) ⊎ (rest ≡ carriage_return ∷ [])) → IsOpenChunked text
  in_trailer : (at bytes trailer : List ℕ) (behind : IsBehind text at bytes) (line : HasLine at 0 trailer) (none : HasNoTrailer trailer) (may : MayHaveTrailer trailer) → IsOpenChunked text
