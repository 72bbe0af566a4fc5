-- Documents of a state, by the codes of their details.
use Rattle.std.specs.Prelude.{[], ◌∷◌, Bool, true, Option, Some, None}
use Rattle.sqlite.specs.Order.{Row}
use Rattle.as2_mdn.specs.Details.{class_of}
use Rattle.as2_mdn.specs.declared.detail.Detail.{Detail}
use Rattle.as2_mdn.specs.declared.detail.Detail.TheVariants.{New, Sending, Awaiting, Retry, Processed, NoReceiptAsked, UnknownMic, NotProcessed, Overdue}
use Rattle.as2_mdn.specs.declared.detail.DetailClass.{DetailClass}
use Rattle.as2_mdn.specs.declared.detail.DetailClass.TheVariants.{P, R, S, W, E}
use Rattle.as2_exchange.specs.Progress.{same_state}
use Rattle.as2_rows.specs.Codes.{detail_code}
use Rattle.as2_rows.specs.Rows.{whole}

-- the detail is one of this state, where one is asked for
abbrev pub detail_in : Option DetailClass → Detail → Bool
detail_in None detail = true
detail_in (Some state) detail = same_state state (class_of detail)

-- the details of the least and of the greatest code among them
abbrev pub first_detail : Option DetailClass → Detail
first_detail None = New
first_detail (Some P) = New
first_detail (Some R) = Sending
first_detail (Some S) = Processed
first_detail (Some W) = NoReceiptAsked
first_detail (Some E) = NotProcessed

abbrev pub last_detail : Option DetailClass → Detail
last_detail None = Overdue
last_detail (Some P) = Awaiting
last_detail (Some R) = Retry
last_detail (Some S) = Processed
last_detail (Some W) = UnknownMic
last_detail (Some E) = Overdue

-- their codes, as a query is given them
abbrev pub state_codes : Option DetailClass → Row
state_codes wanted = whole (detail_code (first_detail wanted)) ∷ whole (detail_code (last_detail wanted)) ∷ []
