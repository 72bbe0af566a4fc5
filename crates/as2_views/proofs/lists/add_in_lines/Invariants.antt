use Rattle.std.proofs.Common.{◌≡◌, ◌++◌, take}
use Rattle.std.specs.List.{flat_map}
use Rattle.as2_views.specs.RowLines.{in_row_line}
use Rattle.as2_views.proofs.lists.add_in_lines.Given as goal

abbrev pub invariant-loop-row : goal.invariant-loop-row
invariant-loop-row l = l.text.items ≡ l.fn.text.items ++ flat_map in_row_line (take l.row-index l.rows)
