use Rattle.std.proofs.Common.{◌≡◌, length}
use Rattle.as2_text.specs.ReceiptOptions.{first_named, options_in}
use Rattle.as2_text.proofs.receipt_options.first_named.Given as goal

abbrev pub invariant-loop-parameter : goal.invariant-loop-parameter
invariant-loop-parameter l = first_named l.name (options_in l.rest) ≡ first_named l.name (options_in l.value)

abbrev pub decreases-loop-parameter : goal.decreases-loop-parameter
decreases-loop-parameter l = length l.rest
