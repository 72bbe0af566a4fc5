use Rattle.std.proofs.Common.{arith}
use Rattle.as2_mic.proofs.Sameness.{piece_tells, next_same, all_same}
use Rattle.as2_mic.proofs.pieces.Pieces.same_bytes.Goals as goal

pub returns-then-ne : goal.returns-then-ne
returns-then-ne c = piece_tells c.args.self.now c.args.other.now c.loop-i.i c.piece.result c.piece-in-loop-i.result c.piece.ensures c.piece-in-loop-i.ensures c.if-ne.ensures

pub loop-i-preserved : goal.loop-i-preserved
loop-i-preserved c = record {
  lengths = c.loop-i.invariant.lengths;
  fronts = next_same c.args.self.now c.args.other.now c.loop-i.i c.piece.result c.piece-in-loop-i.result c.loop-i.invariant.lengths
      (omega (arith, c.loop-i-test.true, c.count-i-end.ensures)) c.loop-i.invariant.fronts c.piece.ensures c.piece-in-loop-i.ensures c.if-ne.ensures;
}

pub returns : goal.returns
returns c = all_same c.args.self.now c.args.other.now c.loop-i.i c.loop-i.invariant.lengths
    (omega (arith, c.loop-i-test.false, c.count-i-end.ensures)) c.loop-i.invariant.fronts
