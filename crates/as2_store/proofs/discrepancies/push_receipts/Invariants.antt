use Rattle.std.proofs.Common.{◌≡◌, ◌++◌, take}
use Rattle.as2_store.specs.Discrepancies.{receipts_wanted}
use Rattle.as2_store.proofs.discrepancies.push_receipts.Given as goal

-- the rows of the entries before this one are there
abbrev pub invariant-entries : goal.invariant-entries
invariant-entries l = l.wanted.items ≡ (l.fn.wanted.items ++ receipts_wanted (take l.entry-index l.received))
