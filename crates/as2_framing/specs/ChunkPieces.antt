-- A chunked body that comes in pieces: what is kept of it, and what a piece more tells (RFC 9112, section 7.1).
use Rattle.std.specs.Prelude.{◌≡◌, ◌⊎◌, ℕ, ◌+◌, ◌<◌, ◌≤◌, Bool, true, false, List, [], ◌∷◌, ◌++◌, length, drop, None, ⊤}
use Rattle.as2_names.specs.Ascii.{carriage_return}
use Rattle.as2_framing.specs.Chunks.{HasLine, HasNoLine, MayHaveLine, NeverHasLine, IsBehind, BeginsChunked, IsBadChunk, IsTooLarge, IsOpenChunked, body_limit, line_limit, trailer_limit}
use Rattle.as2_framing.specs.HeadText.{up_to_empty_line}
use Rattle.as2_framing.specs.Scanning.{line_in, missing_of}
use Rattle.as2_framing.specs.declared.scan.LineSoFar.{LineSoFar}
use Rattle.as2_framing.specs.declared.scan.LineSoFar.TheVariants.{Nothing}
use Rattle.as2_framing.specs.declared.chunk_line.LineRead.{LineRead}
use Rattle.as2_framing.specs.declared.chunk_line.LineRead.TheVariants as read
use Rattle.as2_framing.specs.declared.place.ChunkPlace.{ChunkPlace}
use Rattle.as2_framing.specs.declared.place.ChunkPlace.TheVariants as place
use Rattle.as2_framing.specs.declared.chunked.ChunkStep.{ChunkStep}
use Rattle.as2_framing.specs.declared.chunked.ChunkStep.TheVariants as step
use Rattle.as2_framing.specs.declared.chunked.BodyPiece.{BodyPiece}
use Rattle.as2_framing.specs.declared.chunked.BodyPiece.TheVariants as fed
use Rattle.as2_framing.specs.declared.chunked_body.ChunkedBody.{ChunkedBody}

-- what the text is at the front of a chunk
abbrev pub ReadsLine : List ℕ → LineRead → Type 0
ReadsLine text read.Open = HasNoLine text × MayHaveLine text
ReadsLine text (read.Line n size) = (0 < n) × (n ≤ length text) × HasLine text size (drop n text)
ReadsLine text read.Bad = NeverHasLine text

-- the text ends in CR
abbrev pub EndsInReturn : List ℕ → Type 0
EndsInReturn text = (front : List ℕ) × (text ≡ front ++ carriage_return ∷ [])

-- whether what is missing of CR LF fits into a line
abbrev pub TellsRoom : List ℕ → Bool → Type 0
TellsRoom text true = (length text + 2 ≤ line_limit) ⊎ ((length text < line_limit) × EndsInReturn text)
TellsRoom text false = (line_limit < length text + 2) × (length text < line_limit → ¬ EndsInReturn text)

-- ---- what is kept

-- behind whole chunks stands a part of a line, which is kept, and then the rest
pub record HoldsLine (kept body text rest : List ℕ) : Type 0 where
  pub at : List ℕ
  pub behind : IsBehind text at body
  pub follows : at ≡ kept ++ rest
  pub none : HasNoLine kept
  pub may : MayHaveLine kept

-- a part of a chunk came, whose line says how long it is; so many of its bytes are missing
pub record HoldsBytes (missing : ℕ) (body text rest : List ℕ) : Type 0 where
  pub at : List ℕ
  pub bytes : List ℕ
  pub size : ℕ
  pub after : List ℕ
  pub part : List ℕ
  pub behind : IsBehind text at bytes
  pub line : HasLine at size after
  pub follows : after ≡ part ++ rest
  pub joined : body ≡ bytes ++ part
  pub counted : length part + missing ≡ size
  pub some : 0 < missing
  pub fits : length bytes + size ≤ body_limit

-- all bytes of a chunk came, and this front of its CR LF
pub record HoldsChunk (front body text rest : List ℕ) : Type 0 where
  pub at : List ℕ
  pub bytes : List ℕ
  pub chunk : List ℕ
  pub after : List ℕ
  pub behind : IsBehind text at bytes
  pub line : HasLine at (length chunk) after
  pub some : 0 < length chunk
  pub follows : after ≡ chunk ++ (front ++ rest)
  pub joined : body ≡ bytes ++ chunk
  pub fits : length bytes + length chunk ≤ body_limit

-- a part of the trailer came, of so many bytes, with this of its last line
pub record HoldsTrailer (count : ℕ) (line : LineSoFar) (body text rest : List ℕ) : Type 0 where
  pub at : List ℕ
  pub trailer : List ℕ
  pub came : List ℕ
  pub behind : IsBehind text at body
  pub says : HasLine at 0 trailer
  pub follows : trailer ≡ came ++ rest
  pub counted : count ≡ length came
  pub none : up_to_empty_line came ≡ None
  pub last : line_in Nothing came ≡ line
  pub short : count + missing_of line ≤ trailer_limit

-- what the front of the rest does to a line, of which these bytes are kept then
abbrev pub FindsLine : List ℕ → List ℕ → List ℕ → List ℕ → LineRead → Type 0
FindsLine kept body text rest read.Open = HoldsLine kept body text []
FindsLine kept body text rest (read.Line n size) = (kept ≡ []) × ((at : List ℕ) × IsBehind text at body × HasLine at size (drop n rest))
FindsLine kept body text rest read.Bad = IsBadChunk text

-- .. at that place
abbrev pub HoldsAt : ChunkPlace → List ℕ → List ℕ → List ℕ → List ℕ → Type 0
HoldsAt place.Line kept body text rest = HoldsLine kept body text rest
HoldsAt (place.Bytes missing) kept body text rest = (kept ≡ []) × HoldsBytes missing body text rest
HoldsAt place.Behind kept body text rest = (kept ≡ []) × HoldsChunk [] body text rest
HoldsAt place.Return kept body text rest = (kept ≡ []) × HoldsChunk (carriage_return ∷ []) body text rest
HoldsAt (place.Trailer count line) kept body text rest = (kept ≡ []) × HoldsTrailer count line body text rest

-- a front of the text was taken, with these bytes of body; then comes the rest
abbrev pub HoldsChunked : ChunkedBody → List ℕ → List ℕ → List ℕ → Type 0
HoldsChunked c body text rest = HoldsAt c.place c.line.items body text rest

-- one byte of so many is taken at least
abbrev pub LineWithin : ℕ → LineRead → Type 0
LineWithin most read.Open = ⊤
LineWithin most (read.Line n size) = (0 < n) × (n ≤ most)
LineWithin most read.Bad = ⊤

abbrev pub StepWithin : ℕ → ChunkStep → Type 0
StepWithin most (step.On n) = (0 < n) × (n ≤ most)
StepWithin most (step.Whole n) = (0 < n) × (n ≤ most)
StepWithin most step.Bad = ⊤
StepWithin most step.TooLarge = ⊤

-- what some of the rest tells
abbrev pub StepsTo : ChunkedBody → List ℕ → List ℕ → List ℕ → ChunkStep → Type 0
StepsTo c body text rest (step.On n) = HoldsChunked c body text (drop n rest)
StepsTo c body text rest (step.Whole n) = BeginsChunked text body (drop n rest)
StepsTo c body text rest step.Bad = IsBadChunk text
StepsTo c body text rest step.TooLarge = IsTooLarge text

-- a body ends within so many bytes
abbrev pub BodyWithin : ℕ → BodyPiece → Type 0
BodyWithin most fed.Open = ⊤
BodyWithin most (fed.Whole n) = n ≤ most
BodyWithin most fed.Bad = ⊤
BodyWithin most fed.TooLarge = ⊤

-- what all of the rest tells
abbrev pub Feeds : ChunkedBody → List ℕ → List ℕ → List ℕ → BodyPiece → Type 0
Feeds c body text rest fed.Open = IsOpenChunked text × HoldsChunked c body text []
Feeds c body text rest (fed.Whole n) = (0 < n) × (n ≤ length rest) × BeginsChunked text body (drop n rest)
Feeds c body text rest fed.Bad = IsBadChunk text
Feeds c body text rest fed.TooLarge = IsTooLarge text
