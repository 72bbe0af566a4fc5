use Rattle.std.proofs.Common.{◌≡◌, length}
use Rattle.as2_mic.specs.Algs.{AllDigests, first_known_of}
use Rattle.as2_mic.proofs.alg.Alg.first_of.Given as goal

abbrev pub invariant-loop-name : goal.invariant-loop-name
invariant-loop-name l = first_known_of AllDigests l.rest ≡ first_known_of AllDigests l.list

abbrev pub decreases-loop-name : goal.decreases-loop-name
decreases-loop-name l = length l.rest
