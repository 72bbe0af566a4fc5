use Rattle.std.proofs.Common.{◌≡◌, length}
use Rattle.as2_text.specs.ReceiptOptions.{are_distinct, options_in}
use Rattle.as2_text.proofs.receipt_options.are_distinct.Given as goal

abbrev pub invariant-loop-parameter : goal.invariant-loop-parameter
invariant-loop-parameter l = are_distinct (options_in l.rest) ≡ are_distinct (options_in l.value)

abbrev pub decreases-loop-parameter : goal.decreases-loop-parameter
decreases-loop-parameter l = length l.rest
