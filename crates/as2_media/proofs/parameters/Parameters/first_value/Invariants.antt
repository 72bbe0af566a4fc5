use Rattle.std.proofs.Common.{◌≡◌, drop}
use Rattle.as2_media.specs.Parameters.{first_value}
use Rattle.as2_media.proofs.parameters.Parameters.first_value.Given as goal

abbrev pub invariant-loop-parameter : goal.invariant-loop-parameter
invariant-loop-parameter l = first_value l.name (drop l.parameter-index l.self) ≡ first_value l.name l.self
