-- What is written of a state: its listings, one document, and the content of a received entry.
use Rattle.std.specs.Prelude.{ℕ, ◌&&◌, ◌++◌, length, count_by, codes, decimal, Option, Some, option_map}
use Rattle.std.specs.List.{filter, flat_map}
use Rattle.as2_names.specs.Names.{name_spelling}
use Rattle.as2_mdn.specs.Details.{class_of, name_of}
use Rattle.as2_mdn.specs.declared.detail.DetailClass.{DetailClass}
use Rattle.as2_mdn.specs.declared.detail.DetailClass.TheVariants.{R, E}
use Rattle.as2_exchange.specs.Agreement.{Text}
use Rattle.as2_exchange.specs.OwedReceipts.{is_pending}
use Rattle.as2_exchange.specs.Progress.{is_awaited, is_in, is_new, is_under_way}
use Rattle.as2_exchange.specs.Readings.{is_processed}
use Rattle.as2_exchange.specs.State.{State, document, received_entry, is_settled}
use Rattle.as2_exchange.specs.Tries.{is_due}
use Rattle.as2_exchange.specs.declared.inbox.InEntry.{InEntry}
use Rattle.as2_exchange.specs.declared.outbox.OutEntry.{OutEntry}
use Rattle.as2_views.specs.Layout.{count_line, due_text, evidence_text, from_to, kept_mark, left_in, receipt_stage_mark, named_line, processed_mark, right_in, state_text}

-- ---- the outbox

-- number, state, tries, receipt, detail and names
abbrev pub out_line : OutEntry → Text
out_line d =
    right_in 12 (decimal d.number)
    ++ codes " " ++ state_text (class_of d.detail)
    ++ codes " " ++ right_in 2 (decimal d.tries)
    ++ codes " " ++ kept_mark (is_settled d)
    ++ codes " " ++ left_in 16 (name_of d.detail)
    ++ codes " " ++ from_to d.organization d.partner
    ++ codes "\n"

-- the lines of these documents, in order of number
abbrev pub list_out : State → Option DetailClass → Text
list_out s state = flat_map out_line (filter (is_in state) s.outbox)

-- ---- the inbox

-- number, outcome, receipt, names and identifier
abbrev pub in_line : InEntry → Text
in_line e =
    right_in 12 (decimal e.number)
    ++ codes " " ++ processed_mark (is_processed e.posted.outcome)
    ++ codes " " ++ receipt_stage_mark e.receipt_stage
    ++ codes " " ++ from_to e.posted.sender e.posted.receiver
    ++ codes " " ++ e.posted.id
    ++ codes "\n"

-- the lines of all entries, in order of number
abbrev pub list_in : State → Text
list_in s = flat_map in_line s.inbox

-- ---- what is outstanding

-- five counts, and a line for each document under way whose moment has come
abbrev pub outstanding_text : State → ℕ → Text
outstanding_text s m =
    count_line (codes "documents not sent:") (count_by is_new s.outbox)
    ++ count_line (codes "documents in retry:") (count_by (is_in (Some R)) s.outbox)
    ++ count_line (codes "receipts awaited:") (count_by is_awaited s.outbox)
    ++ count_line (codes "documents in error:") (count_by (is_in (Some E)) s.outbox)
    ++ count_line (codes "receipts to send:") (count_by (λ e. is_pending e.receipt_stage) s.inbox)
    ++ flat_map out_line (filter (λ d. is_under_way d.detail && is_due m d.due) s.outbox)

-- ---- one document

abbrev pub shown_words : OutEntry → Text
shown_words d =
    named_line (codes "number") (decimal d.number)
    ++ named_line (codes "state") (state_text (class_of d.detail) ++ codes " " ++ name_of d.detail)
    ++ named_line (codes "tries") (decimal d.tries)
    ++ named_line (codes "due") (due_text d.due)
    ++ named_line (codes "from") (name_spelling d.organization)
    ++ named_line (codes "to") (name_spelling d.partner)
    ++ named_line (codes "identifier") d.id
    ++ named_line (codes "content") (decimal (length d.content) ++ codes " bytes")
    ++ named_line (codes "receipt") (evidence_text d.evidence)

-- the document of this number, if there is one
abbrev pub show_text : State → ℕ → Option Text
show_text s n = option_map shown_words (document s n)

-- ---- one received entry

-- the content of the received entry of this number, if there is one
abbrev pub fetch : State → ℕ → Option Text
fetch s n = option_map (λ e. e.posted.content) (received_entry s n)
