use Rattle.as2_parts.specs.Lines.{lines}
use Rattle.as2_names.proofs.CutLists.{Cuts}
use Rattle.as2_parts.proofs.lines.first_line.Given as goal

abbrev pub invariant-loop-i : goal.invariant-loop-i
invariant-loop-i l = Cuts (lines l.text) lines l.text l.i
