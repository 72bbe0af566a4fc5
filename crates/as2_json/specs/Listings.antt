-- The listings of a state for programs: which objects there are, in order of number. Each stands in a line of its own.
use Rattle.std.specs.Prelude.{◌≡◌, ℕ, Bool, ◌&&◌, ◌++◌, List, [], ◌∷◌, length, Option, map, option_map}
use Rattle.std.specs.List.{filter}
use Rattle.serde_json.specs.Data.{Data}
use Rattle.as2_mdn.specs.declared.detail.DetailClass.{DetailClass}
use Rattle.as2_exchange.specs.Agreement.{Text}
use Rattle.as2_exchange.specs.Progress.{is_in, is_under_way}
use Rattle.as2_exchange.specs.State.{State, document, is_settled}
use Rattle.as2_exchange.specs.Tries.{is_due}
use Rattle.as2_exchange.specs.declared.outbox.OutEntry.{OutEntry}
use Rattle.as2_records.specs.Counting.{counts_of}
use Rattle.as2_records.specs.Summaries.{in_summary, out_summary}
use Rattle.as2_records.specs.declared.summaries.OutRow.{OutRow}
use Rattle.as2_audit.specs.Audits.{findings}
use Rattle.as2_views.specs.Lists.{is_one_of}
use Rattle.as2_views.specs.declared.filter.Filter.{Filter}
use Rattle.as2_views.specs.declared.filter.Filter.TheVariants.{Inbox, Outbox}
use Rattle.as2_json.specs.Lines.{object_lines}
use Rattle.as2_json.specs.Objects.{counts_object, document_object, finding_object, in_object, out_object, verified_object}

-- of a document that is sent, as it is listed
abbrev pub entry_object : OutEntry → Data
entry_object d = out_object (is_settled d) (out_summary d)

-- `list` of the documents that are sent: those of a state, or all
abbrev pub list_out_objects : State → Option DetailClass → List Data
list_out_objects s wanted = map entry_object (filter (is_in wanted) s.outbox)

-- `list` of the documents that were received
abbrev pub list_in_objects : State → List Data
list_in_objects s = map (λ e. in_object (in_summary e)) s.inbox

-- of the documents that are sent, those of a state or all; or of those that were received
abbrev pub listing_objects : Filter → State → List Data
listing_objects (Outbox wanted) s = list_out_objects s wanted
listing_objects Inbox s = list_in_objects s

-- the documents under way whose moment has come
abbrev pub outstanding_documents : State → ℕ → List OutEntry
outstanding_documents s m = filter (λ d. is_under_way d.detail && is_due m d.due) s.outbox

-- `outstanding`: the counts, and each document under way whose moment has come
abbrev pub outstanding_objects : State → ℕ → List Data
outstanding_objects s m = counts_object (counts_of s) ∷ map entry_object (outstanding_documents s m)

-- `show` of the document of this number, if there is one
abbrev pub shown_object : State → ℕ → Option Data
shown_object s n = option_map document_object (document s n)

-- `verify`: each finding, and how many entries were looked at
abbrev pub verification_objects : State → List Data
verification_objects s = map finding_object (findings s) ++ verified_object (length s.inbox) (length s.outbox) (length (findings s)) ∷ []

-- ---- told by rows

-- of a row, marked where its number is one of those that a receipt has settled
abbrev pub marked_object : List ℕ → OutRow → Data
marked_object settled r = out_object (is_one_of settled r.number) r

-- where the rows are those of the documents of which something holds, the lines of their objects stand behind the text
abbrev pub Continues : State → List OutRow → Text → Text → Type 0
Continues s rows text made = (p : OutEntry → Bool) → rows ≡ map out_summary (filter p s.outbox) → made ≡ text ++ object_lines (map entry_object (filter p s.outbox))

-- the lines of what is outstanding stand behind the text
abbrev pub HasOutstanding : State → ℕ → Text → Text → Type 0
HasOutstanding s m text made = made ≡ text ++ object_lines (map entry_object (outstanding_documents s m))
