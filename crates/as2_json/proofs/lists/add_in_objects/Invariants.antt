use Rattle.std.proofs.Common.{◌≡◌, ◌++◌, take}
use Rattle.std.specs.List.{flat_map}
use Rattle.as2_json.specs.Lines.{object_line}
use Rattle.as2_json.specs.Objects.{in_object}
use Rattle.as2_json.proofs.lists.add_in_objects.Given as goal

abbrev pub invariant-loop-row : goal.invariant-loop-row
invariant-loop-row l = l.text.items ≡ l.fn.text.items ++ flat_map (λ r. object_line (in_object r)) (take l.row-index l.rows)
