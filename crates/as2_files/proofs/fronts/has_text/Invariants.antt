use Rattle.std.proofs.Common.{◌≡◌, length}
use Rattle.as2_files.specs.Fronts.{has_text}
use Rattle.as2_files.proofs.fronts.has_text.Given as goal

abbrev pub invariant-loop-behind : goal.invariant-loop-behind
invariant-loop-behind l = has_text l.text l.rest ≡ has_text l.text l.bytes

abbrev pub decreases-loop-behind : goal.decreases-loop-behind
decreases-loop-behind l = length l.rest
