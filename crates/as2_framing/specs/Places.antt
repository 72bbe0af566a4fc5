-- Places in a chunked body.
use Rattle.std.specs.Prelude.{◌≡◌, ◌⊎◌, ◌+◌, ◌<◌, ◌≤◌, ℕ, Option, Some, None}
use Rattle.as2_framing.specs.Chunks.{body_limit}
use Rattle.as2_framing.specs.declared.place.ChunkPlace.{ChunkPlace}
use Rattle.as2_framing.specs.declared.place.ChunkPlace.TheVariants.{Bytes, Trailer}
use Rattle.as2_framing.specs.declared.scan.LineSoFar.TheVariants.{Nothing}

-- behind a line that says this size, where so many bytes came before: the bytes of a chunk, or the trailer; none where it is too much
abbrev pub GoesOn : ℕ → ℕ → Option ChunkPlace → Type 0
GoesOn size came (Some place) = ((size ≡ 0) × (place ≡ Trailer 0 Nothing)) ⊎ ((0 < size) × (came + size ≤ body_limit) × (place ≡ Bytes size))
GoesOn size came None = body_limit < came + size
