use Rattle.std.proofs.Common.{◌≡◌, ◌++◌, take}
use Rattle.std.specs.List.{flat_map}
use Rattle.as2_views.specs.Lists.{Rise, marked_line}
use Rattle.as2_views.proofs.lists.add_out_lines.Given as goal

abbrev pub invariant-loop-row : goal.invariant-loop-row
invariant-loop-row l = Rise l.settled → l.text.items ≡ l.fn.text.items ++ flat_map (marked_line l.settled) (take l.row-index l.rows)
