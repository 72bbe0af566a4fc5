use Rattle.std.proofs.Common.{◌≡◌, length}
use Rattle.std.specs.List.{list_any}
use Rattle.as2_parts.specs.Lines.{lines, is_closing}
use Rattle.as2_parts.proofs.marks.has_closing.Given as goal

abbrev pub invariant-loop-rest : goal.invariant-loop-rest
invariant-loop-rest l = list_any (is_closing l.boundary) (lines l.text) ≡ list_any (is_closing l.boundary) (lines l.rest)

abbrev pub decreases-loop-rest : goal.decreases-loop-rest
decreases-loop-rest l = length l.rest
