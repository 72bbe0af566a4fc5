use Rattle.std.proofs.Common.{◌≡◌, List, map, take}
use Rattle.as2_exchange.specs.declared.inbox.ReceiptStage.{ReceiptStage}
use Rattle.as2_store.specs.Counting.{receipt_stage_row}
use Rattle.as2_store.proofs.counting.receipt_stages_in.Given as goal

-- how the receipts stand that the rows before this one show
abbrev pub invariant-rows : goal.invariant-rows
invariant-rows l = (ds : List ReceiptStage) → l.rows ≡ map receipt_stage_row ds → l.receipt_stages.items ≡ take l.row-index ds
