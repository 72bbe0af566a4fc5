use Rattle.std.proofs.Common.{◌≡◌, List, map, take}
use Rattle.as2_mdn.specs.declared.detail.Detail.{Detail}
use Rattle.as2_store.specs.Counting.{detail_row}
use Rattle.as2_store.proofs.counting.details_in.Given as goal

-- the details that the rows before this one show
abbrev pub invariant-rows : goal.invariant-rows
invariant-rows l = (ds : List Detail) → l.rows ≡ map detail_row ds → l.details.items ≡ take l.row-index ds
