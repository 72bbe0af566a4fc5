use Rattle.std.proofs.Common.{◌≡◌, drop}
use Rattle.as2_framing.specs.Scanning.{scan_from}
use Rattle.as2_framing.proofs.scan.scan.Given as goal

abbrev pub invariant-loop-i : goal.invariant-loop-i
invariant-loop-i l = scan_from 0 l.fn.line l.bytes ≡ scan_from l.i l.line (drop l.i l.bytes)
