-- Lists of rows: which documents a receipt has settled, and which are outstanding.
use Rattle.std.specs.Prelude.{ℕ, ◌<◌, ◌==◌, Bool, ◌&&◌, List, [], ◌∷◌, map, ⊤}
use Rattle.std.specs.List.{AllByRecursion, list_any}
use Rattle.as2_exchange.specs.Agreement.{Text}
use Rattle.as2_exchange.specs.State.{State}
use Rattle.as2_exchange.specs.Tries.{is_due}
use Rattle.as2_exchange.specs.Progress.{is_under_way}
use Rattle.as2_records.specs.declared.summaries.OutRow.{OutRow}
use Rattle.as2_views.specs.RowLines.{out_row_line}

-- each number is below all that stand behind it
abbrev pub Rise : List ℕ → Type 0
Rise [] = ⊤
Rise (n ∷ ns) = AllByRecursion (λ k. n < k) ns × Rise ns

-- the number is one of these
abbrev pub is_one_of : List ℕ → ℕ → Bool
is_one_of numbers n = list_any (λ k. k == n) numbers

-- the line of a document, marked where its number is one of those that a receipt has settled
abbrev pub marked_line : List ℕ → OutRow → Text
marked_line settled r = out_row_line (is_one_of settled r.number) r

-- something is still to come of the document, and its moment has come
abbrev pub is_outstanding : ℕ → OutRow → Bool
is_outstanding m r = is_under_way r.detail && is_due m r.due

-- the numbers of the documents
abbrev pub document_numbers : State → List ℕ
document_numbers s = map (λ d. d.number) s.outbox
