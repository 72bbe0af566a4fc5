-- What the counts of what is outstanding are taken from: one column of each box.
use Rattle.std.specs.Prelude.{Bool, true, false, List, [], ◌∷◌, map}
use Rattle.sqlite.specs.Order.{Row}
use Rattle.as2_mdn.specs.declared.detail.Detail.{Detail}
use Rattle.as2_mdn.specs.declared.detail.Detail.TheVariants.{Awaiting, New}
use Rattle.as2_exchange.specs.State.{State}
use Rattle.as2_exchange.specs.declared.inbox.ReceiptStage.{ReceiptStage}
use Rattle.as2_rows.specs.Codes.{detail_code, receipt_stage_code}
use Rattle.as2_rows.specs.Rows.{whole}

-- the row that shows a detail
abbrev pub detail_row : Detail → Row
detail_row d = whole (detail_code d) ∷ []

-- the row that shows how a receipt stands
abbrev pub receipt_stage_row : ReceiptStage → Row
receipt_stage_row m = whole (receipt_stage_code m) ∷ []

-- the details of the documents
abbrev pub details_of : State → List Detail
details_of s = map (λ d. d.detail) s.outbox

-- how the receipts for the received documents stand
abbrev pub receipt_stages_of : State → List ReceiptStage
receipt_stages_of s = map (λ e. e.receipt_stage) s.inbox

-- it is new
abbrev pub is_unsent : Detail → Bool
is_unsent New = true
is_unsent other = false

-- a receipt is awaited
abbrev pub is_awaiting : Detail → Bool
is_awaiting Awaiting = true
is_awaiting other = false
