use Rattle.std.proofs.Common.{length}
use Rattle.as2_parts.proofs.Marking.{Unmarked}
use Rattle.as2_parts.proofs.marks.next_mark.Given as goal

abbrev pub invariant-loop-rest : goal.invariant-loop-rest
invariant-loop-rest l = Unmarked l.boundary l.text l.length l.rest

abbrev pub decreases-loop-rest : goal.decreases-loop-rest
decreases-loop-rest l = length l.rest
