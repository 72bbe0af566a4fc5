-- What the query of all that waits answers, and that tables which stand for a state have no discrepancy.
use Rattle.std.proofs.Common.{◌≡◌, ◌∙◌, ℕ, zero, suc, ◌<◌, ◌==◌, nat_le, List, [], ◌∷◌, ◌++◌, map, Option, Some, None, IfSome, is_some, option_map, Bool, true, false, cond, refl, sym, ap, ap₂, arith}
use Rattle.std.specs.List.{AllByRecursion, filter, cons_option, slice_get}
use Rattle.std.specs.Option.{option_or}
use Rattle.std.proofs.lemmas.List.{map-append}
use Rattle.std.proofs.lemmas.Bool.Decides.{nat_tests}
use Rattle.sqlite.specs.Order.{Row}
use Rattle.sqlite.specs.State.{State as Connected, Shown}
use Rattle.sql_tables.proofs.Inside.{shown_open}
use Rattle.as2_exchange.specs.State.{State}
use Rattle.as2_exchange.specs.Progress.{is_in}
use Rattle.as2_exchange.specs.declared.attempt.Attempt.{Attempt}
use Rattle.as2_exchange.specs.declared.attempt.Attempt.TheVariants.{Idle, Running, Last, Used}
use Rattle.as2_exchange.specs.declared.inbox.InEntry.{InEntry}
use Rattle.as2_exchange.specs.declared.inbox.ReceiptStage.{ReceiptStage}
use Rattle.as2_exchange.specs.declared.inbox.ReceiptStage.TheVariants.{Unasked, Pending, Sent}
use Rattle.as2_exchange.specs.declared.outbox.OutEntry.{OutEntry}
use Rattle.as2_records.specs.Finding.{AreNext}
use Rattle.as2_records.specs.Listing.{listed_rows}
use Rattle.as2_records.specs.Summaries.{in_summary, out_summary}
use Rattle.as2_records.specs.declared.discrepancy.Discrepancy.{Discrepancy}
use Rattle.as2_records.specs.declared.discrepancy.Discrepancy.TheVariants.{ReceivedNumber, SentNumber}
use Rattle.as2_records.specs.declared.numbers.NextNumbers.{NextNumbers}
use Rattle.as2_records.specs.declared.summaries.InRow.{InRow}
use Rattle.as2_records.specs.declared.summaries.OutRow.{OutRow}
use Rattle.as2_rows.specs.Waiting.{WaitingRow, in_kind, out_kind, to_send_receipt, to_end, to_hear, to_send, waiting_in, waiting_out}
use Rattle.as2_store.specs.declared.discrepancies.PlacedWaitingRow.{PlacedWaitingRow}
use Rattle.as2_store.specs.Discrepancies.{Compares, IsFirst, IsFirstOf, all_wanted, documents_wanted, is_kind, owes_receipt, is_waiting, last, not_below, number_told, receipts_wanted, rows_of, row_shown, wait_row, wait_told}
use Rattle.as2_store.specs.Stands.{Holds, all_waiting, documents_waiting, waiting_row, HoldsIfOpen}
use Rattle.as2_store.specs.Tables.{waiting_tree}
use Rattle.as2_store.proofs.CountedRows.{each_shown}
use Rattle.as2_store.proofs.OwedTables.{places_in_order}
use Rattle.as2_store.proofs.QueriedRows.{reads_rows}
use Rattle.as2_store.proofs.Statements.{waiting_read_text}
use Rattle.as2_store.proofs.Texts.{waiting_columns, waiting_names, waiting_read_is, waiting_read_plain, waiting_read_unlisted}

-- ---- what is kept

abbrev row_of : WaitingRow → PlacedWaitingRow
row_of w = wait_row w.kind w.number w.due

pub finds_waiting : (old new : Connected) (rows : List Row) → Shown waiting_read_text [] old new rows → (s : State) → HoldsIfOpen old s
    → rows ≡ map row_shown (rows_of (all_waiting s))
finds_waiting old new rows h s r =
    let here = r (shown_open waiting_read_text [] old new rows h) in
    let way = here.way in
    let it = here.stands in
    reads_rows way waiting_read_text (waiting_read_plain way) (waiting_read_unlisted way) waiting_tree [] waiting_columns waiting_names (waiting_read_is way) []
    waiting_row (λ (w : WaitingRow). row_shown (row_of w)) (λ _. refl) (λ _. true) (λ _. refl) old new rows h it.schema
    (all_waiting s) it.entries.waits (places_in_order old.now s it)
    ∙ each_shown row_of row_shown (all_waiting s)

-- ---- what is wanted

-- what a receipt waits for is to be sent
answered : (m : ReceiptStage) (a : Attempt) → IfSome (in_kind m a) (λ k. k ≡ to_send_receipt)
answered Pending Idle = refl
answered Pending Running = refl
answered Pending Last = tt
answered Pending Used = tt
answered Unasked a = tt
answered Sent a = tt

abbrev owed : List InEntry → List InRow
owed es = filter owes_receipt (map in_summary es)

abbrev receipt_rows : List InRow → List PlacedWaitingRow
receipt_rows rows = map (λ (e : InRow). wait_row to_send_receipt e.number e.due) rows

abbrev row_if : ℕ → Option ℕ → Option ℕ → Option WaitingRow
row_if number due o = option_map (λ kind. record { kind = kind; number = number; due = due }) o

receipts_kept : (es : List InEntry) → receipts_wanted (map in_summary es) ≡ rows_of (waiting_in es)
receipts_kept [] = refl
receipts_kept (e ∷ es) = go (in_kind e.receipt_stage e.attempt) (answered e.receipt_stage e.attempt) (receipts_kept es)
  where
    go : (o : Option ℕ) → IfSome o (λ k. k ≡ to_send_receipt) → receipt_rows (owed es) ≡ rows_of (waiting_in es)
        → receipt_rows (cond (is_some o) (in_summary e ∷ owed es) (owed es)) ≡ rows_of (cons_option (row_if e.number e.due o) (waiting_in es))
    go None is rest = rest
    go (Some k) is rest = ap₂ (λ n l. wait_row n e.number e.due ∷ l) (sym is) rest

module _ (kind : ℕ) where
  abbrev those : List OutEntry → List OutRow
  those ds = filter (is_waiting kind) (map out_summary ds)

  abbrev document_rows : List OutRow → List PlacedWaitingRow
  document_rows rows = map (λ (d : OutRow). wait_row kind d.number d.due) rows

  documents_kept : (ds : List OutEntry) → documents_wanted kind (map out_summary ds) ≡ rows_of (documents_waiting kind ds)
  documents_kept [] = refl
  documents_kept (d ∷ ds) = go (out_kind d.detail d.attempt) (documents_kept ds)
    where
      by : (k : ℕ) (t : Bool) → (k == kind) ≡ t → document_rows (those ds) ≡ rows_of (documents_waiting kind ds)
          → document_rows (cond t (out_summary d ∷ those ds) (those ds))
          ≡ rows_of (cond t ((record { kind = k; number = d.number; due = d.due }) ∷ documents_waiting kind ds) (documents_waiting kind ds))
      by k true is rest = let same : kind ≡ k = grind (arith, nat_tests, is) in ap₂ (λ n l. wait_row n d.number d.due ∷ l) same rest
      by k false is rest = rest

      go : (o : Option ℕ) → document_rows (those ds) ≡ rows_of (documents_waiting kind ds)
          → document_rows (cond (is_kind kind o) (out_summary d ∷ those ds) (those ds))
          ≡ rows_of (filter (λ w. w.kind == kind) (cons_option (row_if d.number d.due o) (waiting_out ds)))
      go None rest = rest
      go (Some k) rest = by k (k == kind) refl rest

all_kept : (s : State) → all_wanted (map in_summary s.inbox) (map out_summary s.outbox) ≡ rows_of (all_waiting s)
all_kept s =
    let send = documents_waiting to_send s.outbox in
    let hear = documents_waiting to_hear s.outbox in
    let end = documents_waiting to_end s.outbox in
    let rest = ap₂ ◌++◌ (documents_kept to_hear s.outbox) (documents_kept to_end s.outbox) ∙ sym (map-append row_of hear end) in
    let behind = ap₂ ◌++◌ (receipts_kept s.inbox) rest ∙ sym (map-append row_of (waiting_in s.inbox) (hear ++ end)) in
    ap₂ ◌++◌ (documents_kept to_send s.outbox) behind ∙ sym (map-append row_of send (waiting_in s.inbox ++ (hear ++ end)))

-- all documents are listed where no state is asked for
all_listed : (ds : List OutEntry) → map out_summary (filter (is_in None) ds) ≡ map out_summary ds
all_listed [] = refl
all_listed (d ∷ ds) = ap (λ l. out_summary d ∷ l) (all_listed ds)

-- ---- no discrepancy

-- of numbers that are below the next one none isn't
below : {X Y : Type 0} (row : X → Y) (number : Y → ℕ) (next : ℕ) (xs : List X) (i : ℕ)
    → AllByRecursion (λ n. n < next) (map (λ x. number (row x)) xs) → not_below next (option_map number (slice_get (map row xs) i)) ≡ None
below row number next [] i all = refl
below row number next (x ∷ xs) zero all = go (nat_le next (number (row x))) refl
  where
    go : (t : Bool) → nat_le next (number (row x)) ≡ t → cond t (Some (number (row x))) None ≡ None
    go true is = absurd (let less = all.0 in grind (arith, nat_tests, is, less))
    go false is = refl
below row number next (x ∷ xs) (suc i) all = below row number next xs i all.1

-- the numbers of a state are below the counters
pub record AreBelow (s : State) : Type 0 where
  pub receipts : AllByRecursion (λ n. n < s.next_in) (map (λ (e : InEntry). e.number) s.inbox)
  pub documents : AllByRecursion (λ n. n < s.next_out) (map (λ (d : OutEntry). d.number) s.outbox)

pub are_below : (c : Connected) (s : State) → Holds c.now s → AreBelow s
are_below c s here = record { receipts = here.stands.receipts.1.below; documents = here.stands.documents.1.below }

none_past : (next : NextNumbers) (s : State) → AreBelow s → AreNext next s → number_told next (map in_summary s.inbox) (map out_summary s.outbox) ≡ None
none_past next s all are =
    ap₂ (λ a b. option_or (option_map ReceivedNumber a) (option_map SentNumber b))
    (ap (λ n. not_below n (option_map (λ (e : InRow). e.number) (last (map in_summary s.inbox)))) are.receipt
    ∙ below in_summary (λ (e : InRow). e.number) s.next_in s.inbox _ all.receipts)
    (ap (λ n. not_below n (option_map (λ (d : OutRow). d.number) (last (map out_summary s.outbox)))) are.document
    ∙ below out_summary (λ (d : OutRow). d.number) s.next_out s.outbox _ all.documents)

-- lists that are the same have no first difference
alike : (wanted kept : List PlacedWaitingRow) (row : Option PlacedWaitingRow) → Compares wanted kept row → wanted ≡ kept → row ≡ None
alike wanted kept None told same = refl
alike wanted kept (Some row) told same = absurd (told.1.there (ap (λ l. slice_get l told.0) same))

none_of : (told : Option Discrepancy) (wanted kept : List PlacedWaitingRow) (found : Option Discrepancy) → IsFirstOf told wanted kept found
    → told ≡ None → wanted ≡ kept → found ≡ None
none_of None wanted kept found it none same = it.2 ∙ ap (option_map wait_told) (alike wanted kept it.0 it.1 same)
none_of (Some told) wanted kept found it none same = absurd cc

pub none_first : (next : NextNumbers) (received : List InRow) (sent : List OutRow) (kept : List PlacedWaitingRow) (found : Option Discrepancy) (s : State)
    → IsFirst next received sent kept found → AreBelow s → AreNext next s → received ≡ map in_summary s.inbox → sent ≡ listed_rows None s
    → kept ≡ rows_of (all_waiting s) → found ≡ None
none_first next received sent kept found s it all are ins outs rows =
    let sent_is = outs ∙ all_listed s.outbox in
    none_of (number_told next received sent) (all_wanted received sent) kept found it (ap₂ (number_told next) ins sent_is ∙ none_past next s all are)
    (ap₂ all_wanted ins sent_is ∙ all_kept s ∙ sym rows)
