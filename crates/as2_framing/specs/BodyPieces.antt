-- A body that comes in pieces: what is missing of it, and what a piece more tells (RFC 9112, section 6.3).
use Rattle.std.specs.Prelude.{◌≡◌, ℕ, ◌+◌, ◌<◌, ◌≤◌, List, [], ◌++◌, length, drop, ⊤}
use Rattle.as2_framing.specs.Bodies.{BeginsBody, IsOpenBody, IsBadBody, IsTooLargeBody}
use Rattle.as2_framing.specs.ChunkPieces.{HoldsChunked}
use Rattle.as2_framing.specs.declared.body.BodyFraming.{BodyFraming}
use Rattle.as2_framing.specs.declared.body.BodyFraming.TheVariants as framing
use Rattle.as2_framing.specs.declared.body.MissingBody.{MissingBody}
use Rattle.as2_framing.specs.declared.body.MissingBody.TheVariants as missing
use Rattle.as2_framing.specs.declared.chunked.BodyPiece.{BodyPiece}
use Rattle.as2_framing.specs.declared.chunked.BodyPiece.TheVariants as fed

-- of the body at the front of the text these bytes came, that is missing, and the rest of the text is still to be taken
abbrev pub HoldsBody : MissingBody → BodyFraming → List ℕ → List ℕ → List ℕ → Type 0
HoldsBody (missing.Length m) (framing.Length n) body text rest = (length body + m ≡ n) × (text ≡ body ++ rest)
HoldsBody (missing.Chunked c) framing.Chunked body text rest = HoldsChunked c body text rest
HoldsBody (missing.Length m) framing.Chunked body text rest = ⊥
HoldsBody (missing.Chunked c) (framing.Length n) body text rest = ⊥

-- a byte is missing at least
abbrev pub IsMissing : MissingBody → Type 0
IsMissing (missing.Length m) = 0 < m
IsMissing (missing.Chunked c) = ⊤

-- what all of the rest tells, where that was missing, and that is missing then
abbrev pub FeedsBody : MissingBody → MissingBody → BodyFraming → List ℕ → List ℕ → List ℕ → BodyPiece → Type 0
FeedsBody old new how body text rest fed.Open = IsMissing new × IsOpenBody how text × HoldsBody new how body text []
FeedsBody old new how body text rest (fed.Whole n) = (IsMissing old → 0 < n) × (n ≤ length rest) × BeginsBody how text body (drop n rest)
FeedsBody old new how body text rest fed.Bad = IsBadBody how text
FeedsBody old new how body text rest fed.TooLarge = IsTooLargeBody how text
