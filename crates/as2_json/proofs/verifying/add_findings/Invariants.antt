use Rattle.std.proofs.Common.{◌≡◌, ◌++◌, take}
use Rattle.std.specs.List.{flat_map}
use Rattle.as2_json.specs.Lines.{object_line}
use Rattle.as2_json.specs.Objects.{finding_object}
use Rattle.as2_json.proofs.verifying.add_findings.Given as goal

abbrev pub invariant-loop-finding : goal.invariant-loop-finding
invariant-loop-finding l = l.text.items ≡ l.fn.text.items ++ flat_map (λ f. object_line (finding_object f)) (take l.finding-index l.findings)
