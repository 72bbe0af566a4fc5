use Rattle.std.proofs.Common.{arith}
use Rattle.std.proofs.lemmas.Bool.Decides.{nat_tests}
use Rattle.as2_agreement.proofs.Items.{items_len-view}
use Rattle.as2_agreement.proofs.values.few.Goals as goal

pub returns-then-entries-most : goal.returns-then-entries-most
returns-then-entries-most c = rw (items_len-view c.args.entries.now) (grind (arith, nat_tests))

pub returns-else-entries-most : goal.returns-else-entries-most
returns-else-entries-most c = rw (items_len-view c.args.entries.now) (grind (arith, nat_tests))
