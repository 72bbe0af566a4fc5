use Rattle.std.proofs.Common.{take}
use Rattle.as2_names.specs.Cuts.{Lacks}
use Rattle.as2_names.proofs.cut.cut_at.Given as goal

abbrev pub invariant-loop-i : goal.invariant-loop-i
invariant-loop-i l = Lacks l.byte (take l.i l.text)
