-- What a text begins with is one thing: a chunked body, a fault in its place, or neither yet.
use Rattle.std.specs.Prelude.{◌≡◌, ℕ, List}
use Rattle.as2_framing.specs.Chunks.{BeginsChunked, IsBadChunk, IsTooLarge, IsOpenChunked}

-- two chunked bodies at the front of a text are one
abbrev pub BeginsOneChunked : Type 0
BeginsOneChunked = (text body rest other tail : List ℕ) → BeginsChunked text body rest → BeginsChunked text other tail → (body ≡ other) × (rest ≡ tail)

-- a text that begins with one has no bad chunk, isn't too large and isn't open
abbrev pub NeverFaultyChunked : Type 0
NeverFaultyChunked = (text body rest : List ℕ) → BeginsChunked text body rest → (¬ IsBadChunk text) × (¬ IsTooLarge text)

abbrev pub NeverOpenChunked : Type 0
NeverOpenChunked = (text body rest : List ℕ) → BeginsChunked text body rest → ¬ IsOpenChunked text

-- a text with a bad chunk isn't too large, and none with either is open
abbrev pub HasOneFault : Type 0
HasOneFault = (text : List ℕ) → IsBadChunk text → ¬ IsTooLarge text

abbrev pub NeverOpenFault : Type 0
NeverOpenFault = (text : List ℕ) → IsOpenChunked text → (¬ IsBadChunk text) × (¬ IsTooLarge text)
