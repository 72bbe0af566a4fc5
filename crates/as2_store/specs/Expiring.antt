-- Time passes: the documents whose wait is over.
use Rattle.std.specs.Prelude.{◌≡◌, ◌≢◌, ◌⊎◌, ◌<◌, ℕ, ◌==◌, ◌&&◌, not, Bool, false, if◌then◌else◌, List, map, filter, Option, Some, None}
use Rattle.std.specs.List.{AllByRecursion, list_any}
use Rattle.sqlite.specs.Effect.{Database, IsDatabase}
use Rattle.sqlite.specs.State.{State as Connected}
use Rattle.sqlite.specs.Tree.{IsAscending}
use Rattle.as2_mdn.specs.declared.detail.Detail.{Detail}
use Rattle.as2_mdn.specs.declared.detail.Detail.TheVariants.{Overdue, TriesUsed}
use Rattle.as2_exchange.specs.Documents.{passed_document, tick}
use Rattle.as2_exchange.specs.State.{State}
use Rattle.as2_exchange.specs.Tries.{is_due}
use Rattle.as2_exchange.specs.declared.answer.Answer.TheVariants.{Ticked}
use Rattle.as2_exchange.specs.declared.outbox.OutEntry.{OutEntry}
use Rattle.as2_rows.specs.Rows.{out_row}
use Rattle.as2_rows.specs.Waiting.{WaitingRow, out_kind, to_hear, to_end}
use Rattle.as2_store.specs.Stands.{HoldsIfOpen}
use Rattle.as2_store.specs.Tables.{Way, store_schema, outbox_tree}

-- it is how many documents Tick tells
abbrev pub TicksTablesAs : ℕ → Connected → ℕ → Type 0
TicksTablesAs m old count = (s : State) → HoldsIfOpen old s → Ticked count ≡ (tick m s).0

-- ---- the documents of one kind

-- what a document waits for is this
abbrev pub waits_for : ℕ → Option ℕ → Bool
waits_for kind None = false
waits_for kind (Some own) = own == kind

-- it waits so, and is due at this moment
abbrev pub over : ℕ → ℕ → OutEntry → Bool
over kind m d = waits_for kind (out_kind d.detail d.attempt) && is_due m d.due

-- what waits for its receipt becomes overdue, and the tries of what waits for the end of its last one are used up
abbrev pub PassesInto : ℕ → Detail → Type 0
PassesInto kind detail = ((kind ≡ to_hear) × (detail ≡ Overdue)) ⊎ ((kind ≡ to_end) × (detail ≡ TriesUsed))

-- the state once each document that waits so, and is due at this moment, has passed into this detail
abbrev pub passing_in : ℕ → Detail → ℕ → State → State
passing_in kind detail m s = record s { outbox = map (λ d. if over kind m d then passed_document d (Some detail) else d) s.outbox }

-- ---- what the statements leave

-- the documents once the one of this number has passed into this detail
abbrev pub passing_one : Detail → ℕ → List OutEntry → List OutEntry
passing_one detail n ds = map (λ d. if d.number == n then passed_document d (Some detail) else d) ds

-- the documents once those of these numbers have
abbrev pub passed_documents : Detail → List ℕ → List OutEntry → List OutEntry
passed_documents detail ns ds = map (λ d. if list_any (λ n. d.number == n) ns then passed_document d (Some detail) else d) ds

-- what waits otherwise, or isn't due at this moment
abbrev pub without_due : ℕ → ℕ → List WaitingRow → List WaitingRow
without_due kind m ws = filter (λ w. not (w.kind == kind && is_due m w.due)) ws

-- the documents, in order of number
pub record HoldsDocuments (way : Way) (d : Database) (ds : List OutEntry) : Type 0 where
  pub sound : IsDatabase d
  pub schema : d.schema ≡ store_schema way
  pub rows : d.trees outbox_tree ≡ map out_row ds
  pub in_order : IsAscending (λ x y. x.number < y.number) ds

-- the documents are these, and the other tables are as they were
pub record RewritesDocuments (way : Way) (old new : Connected) (ds : List OutEntry) : Type 0 where
  pub holds : HoldsDocuments way new.now ds
  pub others : AllByRecursion (λ t. t.tree ≢ outbox_tree → new.now.trees t.tree ≡ old.now.trees t.tree) (store_schema way).tables
