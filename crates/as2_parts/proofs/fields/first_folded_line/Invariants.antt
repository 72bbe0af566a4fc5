use Rattle.as2_parts.specs.Fields.{folded_lines}
use Rattle.as2_names.proofs.CutLists.{Cuts}
use Rattle.as2_parts.proofs.fields.first_folded_line.Given as goal

abbrev pub invariant-loop-i : goal.invariant-loop-i
invariant-loop-i l = Cuts (folded_lines l.text) folded_lines l.text l.i
