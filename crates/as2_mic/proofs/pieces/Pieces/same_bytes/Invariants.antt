use Rattle.std.proofs.Common.{◌≡◌, ◌*◌, length, take}
use Rattle.as2_mic.specs.Pieces.{piece_size}
use Rattle.as2_mic.proofs.pieces.Pieces.same_bytes.Given as goal

abbrev pub invariant-loop-i : goal.invariant-loop-i
invariant-loop-i l = record {
  lengths : length l.self ≡ length l.other;
  fronts : take (l.i * piece_size) l.self ≡ take (l.i * piece_size) l.other;
}
