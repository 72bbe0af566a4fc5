use Rattle.std.proofs.Common.{◌≡◌, take}
use Rattle.as2_store.proofs.discrepancies.alike.Given as goal

-- the rows before this place are alike
abbrev pub invariant-rows : goal.invariant-rows
invariant-rows l = take l.at l.wanted ≡ take l.at l.kept
