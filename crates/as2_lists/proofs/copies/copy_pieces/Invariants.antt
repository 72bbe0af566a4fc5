use Rattle.std.proofs.Common.{◌≡◌}
use Rattle.as2_mic.proofs.Fronts.{front}
use Rattle.as2_lists.proofs.copies.copy_pieces.Given as goal

abbrev pub invariant-loop-i : goal.invariant-loop-i
invariant-loop-i l = l.copy ≡ front l.i l.content
