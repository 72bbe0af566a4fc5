use Rattle.std.proofs.Common.{◌≡◌, ◌-◌, length}
use Rattle.std.specs.Prelude.{option_map}
use Rattle.as2_media.specs.Cuts.{segments_of}
use Rattle.as2_names.specs.Names.{with_front}
use Rattle.as2_media.specs.Parameters.{parameters}
use Rattle.as2_media.proofs.parameters.Parameters.parse.Given as goal

abbrev pub invariant-loop-rest : goal.invariant-loop-rest
invariant-loop-rest l =
    with_front l.held.items (parameters (8 - length l.held.items) (segments_of (option_map (λ t. t.now) l.rest))) ≡ parameters 8
    (segments_of (option_map (λ t. t.now) l.fn.text))

abbrev pub decreases-loop-rest : goal.decreases-loop-rest
decreases-loop-rest l = length (segments_of (option_map (λ t. t.now) l.rest))
