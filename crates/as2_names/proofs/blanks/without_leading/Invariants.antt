use Rattle.std.proofs.Common.{◌≡◌, length}
use Rattle.as2_names.specs.Blanks.{skip_blanks}
use Rattle.as2_names.proofs.blanks.without_leading.Given as goal

abbrev pub invariant-loop-text : goal.invariant-loop-text
invariant-loop-text l = skip_blanks l.text ≡ skip_blanks l.fn.text

abbrev pub decreases-loop-text : goal.decreases-loop-text
decreases-loop-text l = length l.text
