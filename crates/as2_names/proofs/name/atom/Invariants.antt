use Rattle.std.proofs.Common.{◌≡◌, take}
use Rattle.as2_names.proofs.name.atom.Given as goal

abbrev pub invariant-loop-b : goal.invariant-loop-b
invariant-loop-b l = l.text.bytes ≡ take l.b-index l.name
