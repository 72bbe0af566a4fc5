use Rattle.std.proofs.Common.{◌≡◌, ◌++◌, take}
use Rattle.std.specs.List.{flat_map}
use Rattle.as2_views.specs.Lists.{Rise}
use Rattle.as2_json.specs.Lines.{object_line}
use Rattle.as2_json.specs.Listings.{marked_object}
use Rattle.as2_json.proofs.lists.add_out_objects.Given as goal

abbrev pub invariant-loop-row : goal.invariant-loop-row
invariant-loop-row l = Rise l.settled → l.text.items ≡ l.fn.text.items ++ flat_map (λ r. object_line (marked_object l.settled r)) (take l.row-index l.rows)
