use Rattle.std.proofs.Common.{◌≡◌, ◌++◌, take}
use Rattle.std.specs.List.{flat_map}
use Rattle.as2_audit.specs.Texts.{finding_line}
use Rattle.as2_audit.proofs.verifying.add_findings.Given as goal

abbrev pub invariant-loop-finding : goal.invariant-loop-finding
invariant-loop-finding l = l.text.items ≡ l.fn.text.items ++ flat_map finding_line (take l.finding-index l.findings)
