use Rattle.std.proofs.Common.{length}
use Rattle.as2_parts.proofs.Marking.{InHead}
use Rattle.as2_parts.proofs.parts.part_in.Given as goal

abbrev pub invariant-loop-rest : goal.invariant-loop-rest
invariant-loop-rest l = InHead l.text l.length l.rest

abbrev pub decreases-loop-rest : goal.decreases-loop-rest
decreases-loop-rest l = length l.rest
