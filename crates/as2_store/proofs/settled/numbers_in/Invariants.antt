use Rattle.std.proofs.Common.{◌≡◌, ℕ, List, map, take}
use Rattle.as2_store.specs.Due.{number_row}
use Rattle.as2_store.proofs.settled.numbers_in.Given as goal

-- the numbers that the rows before this one show
abbrev pub invariant-rows : goal.invariant-rows
invariant-rows l = (ns : List ℕ) → l.rows ≡ map number_row ns → l.numbers.items ≡ take l.row-index ns
