-- A receipt settles a document.
use Rattle.std.specs.Prelude.{ℕ, true, ◌||◌, not, if◌then◌else◌, Option, Some, None}
use Rattle.std.specs.Option.{option_map_or}
use Rattle.as2_mdn.specs.declared.detail.Detail.{Detail}
use Rattle.as2_exchange.specs.Documents.{settled_as}
use Rattle.as2_exchange.specs.State.{State, document, change_document, is_settled}
use Rattle.as2_exchange.specs.Invariants.{is_by_receipt}
use Rattle.as2_exchange.specs.declared.outbox.Evidence.{Evidence}

-- the state once a receipt settles the document of this number so: one that no receipt has settled, by a detail that a receipt
-- gives
abbrev pub settled_in : ℕ → Detail → Evidence → State → Option State
settled_in n detail evidence s =
    if option_map_or is_settled (document s n) true || not (is_by_receipt detail) then None
    else Some (change_document s n (settled_as detail evidence))
