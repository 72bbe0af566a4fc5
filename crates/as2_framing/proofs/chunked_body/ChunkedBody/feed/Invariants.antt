use Rattle.std.proofs.Common.{ℕ, List, length, drop, ◌-◌, ◌≡◌, ◌≤◌}
use Rattle.as2_framing.specs.ChunkPieces.{HoldsChunked}
use Rattle.as2_framing.proofs.chunked_body.ChunkedBody.feed.Given as goal

abbrev pub invariant-loop-rest : goal.invariant-loop-rest
invariant-loop-rest l = record {
  left : l.rest ≡ drop (length l.bytes - length l.rest) l.bytes;
  within : length l.rest ≤ length l.bytes;
  held : (text : List ℕ) → HoldsChunked l.fn.self l.fn.body text l.bytes → HoldsChunked l.self l.body text l.rest;
}

abbrev pub decreases-loop-rest : goal.decreases-loop-rest
decreases-loop-rest l = length l.rest
