-- The body that a text begins with (RFC 9112, section 6.3), by how its end is told; a fault in its place, or neither yet.
use Rattle.std.specs.Prelude.{◌≡◌, ℕ, ◌<◌, List, ◌++◌, length}
use Rattle.as2_framing.specs.Chunks.{BeginsChunked, IsBadChunk, IsTooLarge, IsOpenChunked}
use Rattle.as2_framing.specs.declared.body.BodyFraming.{BodyFraming}
use Rattle.as2_framing.specs.declared.body.BodyFraming.TheVariants.{Length, Chunked}

-- the text begins with that body, and then comes the rest
abbrev pub BeginsBody : BodyFraming → List ℕ → List ℕ → List ℕ → Type 0
BeginsBody (Length n) text body rest = (length body ≡ n) × (text ≡ body ++ rest)
BeginsBody Chunked text body rest = BeginsChunked text body rest

-- the text ends before its body does
abbrev pub IsOpenBody : BodyFraming → List ℕ → Type 0
IsOpenBody (Length n) text = length text < n
IsOpenBody Chunked text = IsOpenChunked text

-- the text begins with no body, however it goes on
abbrev pub IsBadBody : BodyFraming → List ℕ → Type 0
IsBadBody (Length n) text = ⊥
IsBadBody Chunked text = IsBadChunk text

-- the text begins with a body that has too many bytes; where the head tells their number, it is refused before
abbrev pub IsTooLargeBody : BodyFraming → List ℕ → Type 0
IsTooLargeBody (Length n) text = ⊥
IsTooLargeBody Chunked text = IsTooLarge text
