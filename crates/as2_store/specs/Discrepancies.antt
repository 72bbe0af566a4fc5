-- The entries against what is kept beside them: the counters, and the rows of what waits.
use Rattle.std.specs.Prelude.{◌≡◌, ◌≢◌, ℕ, ◌+◌, ◌*◌, ◌-◌, ◌==◌, nat_le, nat_lt, Bool, false, if◌then◌else◌, List, [], ◌∷◌, ◌++◌, length, map, take, filter, Option, Some, None, is_some, option_map}
use Rattle.std.specs.List.{slice_get}
use Rattle.std.specs.Option.{option_or}
use Rattle.sqlite.specs.Order.{Row}
use Rattle.as2_exchange.specs.State.{end_of_numbers}
use Rattle.as2_records.specs.declared.discrepancy.Discrepancy.{Discrepancy}
use Rattle.as2_records.specs.declared.discrepancy.Discrepancy.TheVariants.{ReceivedNumber, SentNumber, ReceivedWait, SentWait}
use Rattle.as2_records.specs.declared.numbers.NextNumbers.{NextNumbers}
use Rattle.as2_records.specs.declared.summaries.InRow.{InRow}
use Rattle.as2_records.specs.declared.summaries.OutRow.{OutRow}
use Rattle.as2_rows.specs.Rows.{whole, whole_or_null}
use Rattle.as2_rows.specs.Waiting.{WaitingRow, in_kind, out_kind, to_send_receipt, to_end, to_hear, to_send}
use Rattle.as2_store.specs.declared.discrepancies.PlacedWaitingRow.{PlacedWaitingRow}

-- ---- the rows

-- what waits, at its place
abbrev pub wait_row : ℕ → ℕ → Option ℕ → PlacedWaitingRow
wait_row kind number due = record { place = kind * end_of_numbers + number; kind = kind; number = number; due = due }

abbrev pub rows_of : List WaitingRow → List PlacedWaitingRow
rows_of ws = map (λ w. wait_row w.kind w.number w.due) ws

-- as a query shows it: place, kind, number, due
abbrev pub row_shown : PlacedWaitingRow → Row
row_shown w = whole w.place ∷ whole w.kind ∷ whole w.number ∷ whole_or_null w.due ∷ []

-- ---- the rows that are to be kept, by the entries

abbrev pub is_kind : ℕ → Option ℕ → Bool
is_kind kind None = false
is_kind kind (Some other) = other == kind

-- the document waits for this
abbrev pub is_waiting : ℕ → OutRow → Bool
is_waiting kind d = is_kind kind (out_kind d.detail d.attempt)

-- the receipt for the entry is to be sent
abbrev pub owes_receipt : InRow → Bool
owes_receipt e = is_some (in_kind e.receipt_stage e.attempt)

-- the rows of the documents that wait for this
abbrev pub documents_wanted : ℕ → List OutRow → List PlacedWaitingRow
documents_wanted kind sent = map (λ d. wait_row kind d.number d.due) (filter (is_waiting kind) sent)

-- the rows of the receipts that are to be sent
abbrev pub receipts_wanted : List InRow → List PlacedWaitingRow
receipts_wanted received = map (λ e. wait_row to_send_receipt e.number e.due) (filter owes_receipt received)

-- all of them, in the order of the places: documents to send, receipts to send, receipts awaited, last tries
abbrev pub all_wanted : List InRow → List OutRow → List PlacedWaitingRow
all_wanted received sent = documents_wanted to_send sent ++ (receipts_wanted received ++ (documents_wanted to_hear sent ++ documents_wanted to_end sent))

-- ---- where they differ

-- before this place of the lists they are alike, and at it they aren't
pub record DifferAt (wanted kept : List PlacedWaitingRow) (at : ℕ) : Type 0 where
  pub before : take at wanted ≡ take at kept
  pub there : slice_get wanted at ≢ slice_get kept at

-- the row of the lower place of the two; where both have one place, the wanted one
abbrev pub lower : Option PlacedWaitingRow → Option PlacedWaitingRow → Option PlacedWaitingRow
lower None kept = kept
lower (Some row) None = Some row
lower (Some row) (Some other) = if nat_lt other.place row.place then Some other else Some row

-- no row where both lists are the same, and else the lower of the first two that differ
abbrev pub Compares : List PlacedWaitingRow → List PlacedWaitingRow → Option PlacedWaitingRow → Type 0
Compares wanted kept None = wanted ≡ kept
Compares wanted kept (Some row) = (at : ℕ) × DifferAt wanted kept at × (lower (slice_get wanted at) (slice_get kept at) ≡ Some row)

-- ---- the first discrepancy

abbrev pub wait_told : PlacedWaitingRow → Discrepancy
wait_told row = if row.kind == to_send_receipt then ReceivedWait row.number else SentWait row.number

abbrev pub last : {X : Type 0} → List X → Option X
last xs = slice_get xs (length xs - 1)

-- the number, where it isn't below the next one
abbrev pub not_below : ℕ → Option ℕ → Option ℕ
not_below next None = None
not_below next (Some number) = if nat_le next number then Some number else None

-- the last number of the inbox, or else of the outbox, that isn't below the next one
abbrev pub number_told : NextNumbers → List InRow → List OutRow → Option Discrepancy
number_told next received sent = option_or (option_map ReceivedNumber (not_below next.receipt (option_map (λ e. e.number) (last received))))
    (option_map SentNumber (not_below next.document (option_map (λ d. d.number) (last sent))))

-- that of a number, where there is one, and else that of the first row that isn't kept as it is wanted
abbrev pub IsFirstOf : Option Discrepancy → List PlacedWaitingRow → List PlacedWaitingRow → Option Discrepancy → Type 0
IsFirstOf (Some told) wanted kept found = found ≡ Some told
IsFirstOf None wanted kept found = (row : Option PlacedWaitingRow) × Compares wanted kept row × (found ≡ option_map wait_told row)

-- the first discrepancy between these entries and the counters and rows that are kept
abbrev pub IsFirst : NextNumbers → List InRow → List OutRow → List PlacedWaitingRow → Option Discrepancy → Type 0
IsFirst next received sent kept found = IsFirstOf (number_told next received sent) (all_wanted received sent) kept found
