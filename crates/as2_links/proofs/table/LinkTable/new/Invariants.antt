use Rattle.std.proofs.Common.{◌≡◌, None, replicate}
use Rattle.as2_links.proofs.table.LinkTable.new.Given as goal

abbrev pub invariant-loop : goal.invariant-loop
invariant-loop l = l.links.items ≡ replicate l.counter None
