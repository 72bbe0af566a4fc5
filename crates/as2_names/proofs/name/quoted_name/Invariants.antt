use Rattle.std.proofs.Common.{◌≤◌, drop}
use Rattle.as2_names.specs.Scan.{Scans}
use Rattle.as2_names.proofs.name.quoted_name.Given as goal

abbrev pub invariant-loop-i : goal.invariant-loop-i
invariant-loop-i l = record {
  scans : Scans l.text l.scan.kept.items l.scan.count l.scan.escaping (drop l.i l.text);
  counted : l.scan.count ≤ l.i;
}
