use Rattle.std.proofs.Common.{◌≡◌, ◌+◌, ◌++◌, ◌<◌, ◌≤◌, ◌^◌, length, take}
use Rattle.as2_mic.proofs.pieces.Pieces.append.Given as goal

abbrev pub invariant-loop-rest : goal.invariant-loop-rest
invariant-loop-rest l = record {
  before : l.before ≡ length l.fn.self;
  fits : length l.self + length l.rest < 2 ^ 64;
  put : l.self ++ l.rest ≡ l.fn.self ++ l.bytes;
  kept : take (length l.fn.self) l.self ≡ l.fn.self;
  grown : length l.fn.self ≤ length l.self;
}

abbrev pub decreases-loop-rest : goal.decreases-loop-rest
decreases-loop-rest l = length l.rest
