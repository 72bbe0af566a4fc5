use Rattle.std.proofs.Common.{◌≡◌, List, map, take}
use Rattle.as2_store.specs.Discrepancies.{row_shown}
use Rattle.as2_store.specs.declared.discrepancies.PlacedWaitingRow.{PlacedWaitingRow}
use Rattle.as2_store.proofs.discrepancies.read_rows.Given as goal

-- what the rows before this one show
abbrev pub invariant-rows : goal.invariant-rows
invariant-rows l = (ws : List PlacedWaitingRow) → l.rows ≡ map row_shown ws → l.read.items ≡ take l.row-index ws
