-- The lines of listings, told by rows without contents.
use Rattle.std.specs.Prelude.{Bool, ◌++◌, codes, decimal}
use Rattle.as2_mdn.specs.Details.{class_of, name_of}
use Rattle.as2_exchange.specs.Agreement.{Text}
use Rattle.as2_exchange.specs.Readings.{is_processed}
use Rattle.as2_views.specs.Layout.{from_to, kept_mark, left_in, receipt_stage_mark, processed_mark, right_in, state_text}
use Rattle.as2_records.specs.declared.summaries.InRow.{InRow}
use Rattle.as2_records.specs.declared.summaries.OutRow.{OutRow}

-- number, outcome, receipt, names and identifier
abbrev pub in_row_line : InRow → Text
in_row_line r =
    right_in 12 (decimal r.number)
    ++ codes " " ++ processed_mark (is_processed r.outcome)
    ++ codes " " ++ receipt_stage_mark r.receipt_stage
    ++ codes " " ++ from_to r.sender r.receiver
    ++ codes " " ++ r.id
    ++ codes "\n"

-- number, state, tries, receipt, detail and names
abbrev pub out_row_line : Bool → OutRow → Text
out_row_line is_settled r =
    right_in 12 (decimal r.number)
    ++ codes " " ++ state_text (class_of r.detail)
    ++ codes " " ++ right_in 2 (decimal r.tries)
    ++ codes " " ++ kept_mark is_settled
    ++ codes " " ++ left_in 16 (name_of r.detail)
    ++ codes " " ++ from_to r.organization r.partner
    ++ codes "\n"
