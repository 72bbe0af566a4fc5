-- What the tables stand for once a receipt that is owed has come further.
use Rattle.std.proofs.Common.{◌≡◌, ◌≢◌, ℕ, ◌<◌, ◌≤◌, ◌==◌, ◌&&◌, List, [], ◌∷◌, ◌++◌, map, filter, length, Option, Some, None, IfSome, Bool, true, false, cond, Ok, refl, sym, ap, ap₂, subst, ◌∙◌, IsTrue, pos, arith}
use Rattle.sqlite.specs.Store.{Ghosts}
use Rattle.sqlite.specs.Held.{Held, state}
use Rattle.std.specs.List.{AllByRecursion, cons_option}
use Rattle.std.proofs.lemmas.List.Elements.{filter_map-append}
use Rattle.sqlite.specs.declared.types.Value.TheVariants.{Int}
use Rattle.sqlite.specs.Order.{Row}
use Rattle.sqlite.specs.Effect.{Database}
use Rattle.sqlite.specs.Tree.{IsTable}
use Rattle.sqlite.specs.State.{State as Connected, HasCleanDisk, Executes}
use Rattle.sqlite_trees.proofs.ListLemmas.{filter_same, all-map, all_from_map}
use Rattle.sql_tables.specs.Changes.{ChangesTable, HasRows, passes}
use Rattle.sql_tables.proofs.Sorting.{unchanged}
use Rattle.sql_tables.proofs.Changing.{updates}
use Rattle.sql_tables.proofs.Queries.{numbers_equal}
use Rattle.sql_tables.proofs.Writes.{cast_int, cast_null}
use Rattle.as2_exchange.specs.State.{State, end_of_numbers, change_received}
use Rattle.as2_exchange.specs.Invariants.{AreNumbers}
use Rattle.as2_exchange.specs.declared.inbox.InEntry.{InEntry}
use Rattle.as2_exchange.specs.declared.outbox.OutEntry.{OutEntry}
use Rattle.as2_exchange.proofs.Lists.{all_weaken, map_kept}
use Rattle.as2_rows.specs.Codes.{attempt_code, receipt_stage_code}
use Rattle.as2_rows.specs.Rows.{in_row, whole, whole_or_null}
use Rattle.as2_rows.specs.Contents.{pieces, piece_shown}
use Rattle.as2_rows.specs.Waiting.{WaitingRow, in_waiting, waiting_in, to_send, to_send_receipt, to_hear, to_end}
use Rattle.as2_store.specs.Tables.{Way, Layout, VersionThree, store_schema, inbox_table, inbox_tree, inbox_piece_tree}
use Rattle.as2_store.proofs.Statements.{in_set_text}
use Rattle.as2_store.specs.Stands.{IsWhole, Stands, waiting_row, documents_waiting, all_waiting, inbox_pieces}
use Rattle.as2_store.specs.Adding.{noted_rows}
use Rattle.as2_store.specs.Owing.{answers_at}
use Rattle.as2_records.specs.Owing.{with_receipt_progress, set_receipt_in}
use Rattle.as2_store.specs.Requeuing.{not_at, HoldsWaiting, RenewsWaiting}
use Rattle.as2_store.specs.Settling.{place_of}
use Rattle.as2_records.specs.declared.progress.ReceiptProgress.{ReceiptProgress}
use Rattle.as2_store.proofs.NumberedRows.{numbers_rise, entries_rise}
use Rattle.as2_store.proofs.WaitingRows.{IsLast, cast_optional, documents_of, ins_small, kind_is_last}
use Rattle.as2_store.proofs.InboxRow.{cast_url, cast_digest, cast_mic}
use Rattle.as2_store.proofs.QueriedRows.{and_true}
use Rattle.as2_store.proofs.InboxQueries.{same_tests}
use Rattle.as2_store.proofs.ForeignKeys.{quiet}
use Rattle.as2_store.proofs.Texts.{inbox_place, inbox_there, number_terms, owed_project, in_set_is, in_set_plain}
use Rattle.as2_store.proofs.NumberedEntries.{in_number, Split, split, at_one, changed, changed_none, changed_split, none_numbered}
use Rattle.as2_store.proofs.Marking.{Follows}
use Rattle.as2_store.proofs.Untouched.{AtMeta, AtInbox, AtInboxPiece, AtOutbox, AtOutboxPiece, AtEvidence, AtWaiting, AtOrigin, AtResent, keeping, still_emptied, still_origin, still_resent}
use Rattle.as2_store.proofs.WaitingPlaces.{documents_rise, receipts_rise, places_rise, renewed}

-- ---- the statement

abbrev pub owed_params : ℕ → ReceiptProgress → Row
owed_params n p = Int (pos n) ∷ whole (receipt_stage_code p.receipt_stage) ∷ whole p.tries ∷ whole (attempt_code p.attempt) ∷ whole_or_null p.due ∷ []

as_rows : (n w : ℕ) (p : ReceiptProgress) (es : List InEntry) → AllByRecursion (λ (e : InEntry). (e.number == w) ≡ (e.number == n)) es
    → map (λ (e : InEntry). cond (passes number_terms (owed_params w p) (in_row e)) (in_row (with_receipt_progress p e))
    (in_row e)) es ≡ map in_row (changed in_number n (with_receipt_progress p) es)
as_rows n w p [] same = refl
as_rows n w p (e ∷ es) same =
    ap₂ ◌∷◌ (ap (λ t. cond t (in_row (with_receipt_progress p e)) (in_row e))
    (ap (λ b. b && true) (numbers_equal e.number w) ∙ and_true _ ∙ same.0) ∙ by_case (e.number == n)) (as_rows n w p es same.1)
  where
    by_case : (t : Bool) → cond t (in_row (with_receipt_progress p e)) (in_row e) ≡ in_row (cond t (with_receipt_progress p e) e)
    by_case true = refl
    by_case false = refl

pub sets_owed : {way : Way} (n w count : ℕ) (p : ReceiptProgress) → (end_of_numbers ≤ n → w ≡ end_of_numbers) → (n < end_of_numbers → w ≡ n)
    → (old new : Connected) (s : State) → Stands (VersionThree way) old.now s → Executes in_set_text (owed_params w p) old new (Ok count)
    → ChangesTable old new (store_schema way) (inbox_tree way) (map in_row (change_received s n (with_receipt_progress p)).inbox)
    × (count ≡ length (filter (λ (e : InEntry). e.number == n) s.inbox))
sets_owed {way} n w count p beyond within old new s it h =
    let low = all_weaken (λ k. k < s.next_in) (λ k. k < end_of_numbers) (λ k less. omega (arith, less, it.receipts.0.most))
    (map (λ (e : InEntry). e.number) s.inbox) it.receipts.1.below in
    let same = same_tests (λ (e : InEntry). e.number) n w beyond within s.inbox low in
    let done = updates in_set_text (owed_params w p) old new (store_schema way) it.schema (inbox_place way) (inbox_table way)
    (inbox_there way) number_terms owed_project (λ (e : InEntry). pos e.number) in_row (λ _. refl)
    (λ (e : InEntry). in_row (with_receipt_progress p e)) (λ _. refl)
    (λ e. simp (cast_int, cast_null, cast_optional, cast_url, cast_digest, cast_mic)) s.inbox it.entries.inbox
    (entries_rise in_row (λ (e : InEntry). e.number) (λ _. refl) s.next_in s.inbox it.receipts.1) (quiet way (inbox_tree way)) (in_set_is way)
    (in_set_plain way) count h in (
      subst (ChangesTable old new (store_schema way) (inbox_tree way)) (as_rows n w p s.inbox same) done.0,
      done.1 ∙ ap length (filter_same (λ (e : InEntry). passes number_terms (owed_params w p) (in_row e)) (λ (e : InEntry). e.number == w) s.inbox
          (of_number w p s.inbox) ∙ filter_same (λ (e : InEntry). e.number == w) (λ (e : InEntry). e.number == n) s.inbox same),
    )
  where
    of_number : (w : ℕ) (p : ReceiptProgress) (es : List InEntry)
        → AllByRecursion (λ (e : InEntry). passes number_terms (owed_params w p) (in_row e) ≡ (e.number == w)) es
    of_number w p [] = tt
    of_number w p (e ∷ es) = (ap (λ b. b && true) (numbers_equal e.number w) ∙ and_true _, of_number w p es)

-- ---- what waits

below_end : (next : ℕ) → next ≤ end_of_numbers → (ns : List ℕ) → AllByRecursion (λ n. n < next) ns → AllByRecursion (λ n. n < end_of_numbers) ns
below_end next most ns all = all_weaken (λ n. n < next) (λ n. n < end_of_numbers) (λ n less. omega (arith, less, most)) ns all

pub places_in_order : {layout : Layout} (d : Database) (s : State) → Stands layout d s → IsTable (map waiting_row (all_waiting s))
places_in_order d s it =
    let outs = below_end s.next_out it.documents.0.most (map (λ (x : OutEntry). x.number) s.outbox) it.documents.1.below in
    let ins = below_end s.next_in it.receipts.0.most (map (λ (e : InEntry). e.number) s.inbox) it.receipts.1.below in
    let ds = numbers_rise (λ (x : OutEntry). x.number) s.next_out s.outbox it.documents.1 in
    let es = numbers_rise (λ (e : InEntry). e.number) s.next_in s.inbox it.receipts.1 in
    places_rise (documents_waiting to_send s.outbox) (waiting_in s.inbox) (documents_waiting to_hear s.outbox) (documents_waiting to_end s.outbox)
    (documents_of to_send end_of_numbers s.outbox outs) (ins_small end_of_numbers s.inbox ins) (documents_of to_hear end_of_numbers s.outbox outs)
    (documents_of to_end end_of_numbers s.outbox outs)
    (documents_rise to_send s.outbox ds) (receipts_rise s.inbox es) (documents_rise to_hear s.outbox ds) (documents_rise to_end s.outbox ds)

pub holds : (way : Way) (a b : Connected) (s : State) → Stands (VersionThree way) a.now s → (rows : List Row)
    → ChangesTable a b (store_schema way) (inbox_tree way) rows → HoldsWaiting way b.now (all_waiting s)
holds way a b s it rows one = record {
  schema = one.schema_is;
  rows = keeping way AtInbox a.now.trees b.now.trees one.others AtWaiting (λ e. omega arith) ∙ it.entries.waits;
  in_order = places_in_order a.now s it;
}

waiting_above : (n : ℕ) (es : List InEntry) → AllByRecursion (λ (e : InEntry). n < e.number) es
    → AllByRecursion (λ v. (v.kind ≡ to_send_receipt) × (n < v.number)) (waiting_in es)
waiting_above n [] all = tt
waiting_above n (e ∷ es) all = go (in_waiting e) (kind_is_last e.receipt_stage e.attempt e.number e.due) (waiting_above n es all.1)
  where
    go : (o : Option WaitingRow) → IfSome o (IsLast e.number) → AllByRecursion (λ v. (v.kind ≡ to_send_receipt) × (n < v.number)) (waiting_in es)
        → AllByRecursion (λ v. (v.kind ≡ to_send_receipt) × (n < v.number)) (cons_option o (waiting_in es))
    go None is rest = rest
    go (Some v) is rest = ((is.0, omega (arith, is.1, all.0)), rest)

waits_on : (s : State) (n : ℕ) (p : ReceiptProgress) → n < end_of_numbers → AllByRecursion (λ k. k < end_of_numbers) (map (λ (d : OutEntry). d.number) s.outbox)
    → Split in_number n s.inbox
    → noted_rows (answers_at n p) (map waiting_row (not_at (place_of to_send_receipt n) (all_waiting s))) ≡ map waiting_row
    (all_waiting (change_received s n (with_receipt_progress p)))
waits_on s n p small outs it =
    let send = documents_waiting to_send s.outbox in
    let late = documents_waiting to_hear s.outbox ++ documents_waiting to_end s.outbox in
    let was : waiting_in s.inbox ≡ waiting_in it.front ++ cons_option (in_waiting it.one) (waiting_in it.back) = ap waiting_in it.whole
    ∙ filter_map-append in_waiting it.front (it.one ∷ it.back) in
    let now : waiting_in (changed in_number n (with_receipt_progress p) s.inbox) ≡ waiting_in it.front ++ cons_option (answers_at n p) (waiting_in it.back) =
    ap waiting_in (changed_split in_number n (with_receipt_progress p) s.inbox it)
    ∙ filter_map-append in_waiting it.front (with_receipt_progress p it.one ∷ it.back)
    ∙ ap (λ k. waiting_in it.front ++ cons_option (answers_at k p) (waiting_in it.back)) it.here in
    ap (λ l. noted_rows (answers_at n p) (map waiting_row (not_at (place_of to_send_receipt n) (send ++ (l ++ late))))) was
    ∙ renewed n (answers_at n p) (kind_is_last p.receipt_stage p.attempt n p.due) small (in_waiting it.one)
    (subst (λ k. IfSome (in_waiting it.one) (IsLast k)) it.here (kind_is_last it.one.receipt_stage it.one.attempt it.one.number it.one.due))
    send (waiting_in it.front) (waiting_in it.back) (documents_waiting to_hear s.outbox) (documents_waiting to_end s.outbox)
    (documents_of to_send end_of_numbers s.outbox outs) (ins_small n it.front (all-map (λ k. k < n) (λ (e : InEntry). e.number) it.front it.low))
    (waiting_above n it.back it.high)
    (documents_of to_hear end_of_numbers s.outbox outs) (documents_of to_end end_of_numbers s.outbox outs)
    ∙ ap (λ l. map waiting_row (send ++ (l ++ late))) (sym now)

-- ---- the state

same_pieces : (n : ℕ) (p : ReceiptProgress) (es : List InEntry) → inbox_pieces (changed in_number n (with_receipt_progress p) es) ≡ inbox_pieces es
same_pieces n p [] = refl
same_pieces n p (e ∷ es) = ap₂ ◌++◌ (by_case (e.number == n)) (same_pieces n p es)
  where
    by_case : (t : Bool)
        → pieces (cond t (with_receipt_progress p e) e).number (cond t (with_receipt_progress p e) e).posted.content ≡ pieces e.number e.posted.content
    by_case true = refl
    by_case false = refl

same_numbers : (n : ℕ) (p : ReceiptProgress) (es : List InEntry)
    → map (λ (e : InEntry). e.number) (changed in_number n (with_receipt_progress p) es) ≡ map (λ (e : InEntry). e.number) es
same_numbers n p es = map_kept (λ (e : InEntry). e.number) (λ (e : InEntry). cond (e.number == n) (with_receipt_progress p e) e)
    (λ e. by_case e (e.number == n)) es
  where
    by_case : (e : InEntry) (t : Bool) → (cond t (with_receipt_progress p e) e).number ≡ e.number
    by_case e true = refl
    by_case e false = refl

-- the tables stand for the state with the receipt further on, where an entry has the number
pub stands_owed : (way : Way) (a b c : Connected) (s : State) (n w : ℕ) (p : ReceiptProgress) → (n < end_of_numbers → w ≡ n) → Stands (VersionThree way) a.now s
    → length (filter (λ (e : InEntry). e.number == n) s.inbox) ≢ 0
    → ChangesTable a b (store_schema way) (inbox_tree way) (map in_row (change_received s n (with_receipt_progress p)).inbox)
    → RenewsWaiting way b c (noted_rows (answers_at w p) (map waiting_row (not_at (place_of to_send_receipt w) (all_waiting s))))
    → Stands (VersionThree way) c.now (change_received s n (with_receipt_progress p))
unfolding IsWhole
stands_owed way a b c s n w p within it some one two =
    let has = it.entries in
    let k1 = keeping way AtInbox a.now.trees b.now.trees one.others in
    let k2 = keeping way AtWaiting b.now.trees c.now.trees two.others in
    let es = numbers_rise (λ (e : InEntry). e.number) s.next_in s.inbox it.receipts.1 in
    let found = split in_number n s.inbox es some in
    let below = at_one (λ e. e.number < s.next_in) found.front found.one found.back
    (subst (AllByRecursion (λ (e : InEntry). e.number < s.next_in)) found.whole
    (all_from_map (λ k. k < s.next_in) (λ (e : InEntry). e.number) s.inbox it.receipts.1.below)) in
    let small : n < end_of_numbers = omega (arith, below, found.here, it.receipts.0.most) in
    let outs = below_end s.next_out it.documents.0.most (map (λ (d : OutEntry). d.number) s.outbox) it.documents.1.below in
    record {
      sound = two.sound;
      schema = two.schema_is;
      meta = k2 AtMeta (λ e. omega arith) ∙ k1 AtMeta (λ e. omega arith) ∙ it.meta;
      entries = record {
        inbox = k2 AtInbox (λ e. omega arith) ∙ one.rows_are;
        inbox_contents = subst (λ ps. HasRows (c.now.trees (inbox_piece_tree way)) (map piece_shown ps)) (sym (same_pieces n p s.inbox))
            (unchanged (k2 AtInboxPiece (λ e. omega arith) ∙ k1 AtInboxPiece (λ e. omega arith)) has.inbox_contents);
        outbox = k2 AtOutbox (λ e. omega arith) ∙ k1 AtOutbox (λ e. omega arith) ∙ has.outbox;
        outbox_contents = unchanged (k2 AtOutboxPiece (λ e. omega arith) ∙ k1 AtOutboxPiece (λ e. omega arith)) has.outbox_contents;
        evidence = k2 AtEvidence (λ e. omega arith) ∙ k1 AtEvidence (λ e. omega arith) ∙ has.evidence;
        waits = two.rows_are ∙ ap (λ k. noted_rows (answers_at k p) (map waiting_row (not_at (place_of to_send_receipt k) (all_waiting s))))
            (within small) ∙ waits_on s n p small outs found;
      };
      version = still_origin (k2 AtOrigin (λ e. omega arith) ∙ k1 AtOrigin (λ e. omega arith)) it.version;
      begun = still_resent (k2 AtResent (λ e. omega arith) ∙ k1 AtResent (λ e. omega arith)) it.begun;
      left = still_emptied way AtWaiting b.now c.now two.others (still_emptied way AtInbox a.now b.now one.others it.left);
      receipts = (it.receipts.0, subst (AreNumbers s.next_in) (sym (same_numbers n p s.inbox)) it.receipts.1);
      documents = it.documents;
    }

-- and where none has it, the state is as it was
pub nothing_owed : (s : State) (n : ℕ) (p : ReceiptProgress) → length (filter (λ (e : InEntry). e.number == n) s.inbox) ≡ 0
    → change_received s n (with_receipt_progress p) ≡ s
nothing_owed s n p none =
    ap (λ es. record s { inbox = es }) (changed_none in_number n (with_receipt_progress p) s.inbox (none_numbered in_number n s.inbox none))

-- the tables then stand for what they stood for
pub stands_unnumbered : (way : Way) (a b : Connected) (s : State) (n : ℕ) (p : ReceiptProgress) → Stands (VersionThree way) a.now s
    → length (filter (λ (e : InEntry). e.number == n) s.inbox) ≡ 0
    → ChangesTable a b (store_schema way) (inbox_tree way) (map in_row (change_received s n (with_receipt_progress p)).inbox)
    → Stands (VersionThree way) b.now (change_received s n (with_receipt_progress p))
unfolding IsWhole
stands_unnumbered way a b s n p it none one =
    let has = it.entries in
    let k1 = keeping way AtInbox a.now.trees b.now.trees one.others in
    let same = nothing_owed s n p none in
    subst (λ (t : State). Stands (VersionThree way) b.now t) (sym same) (record {
      sound = one.sound;
      schema = one.schema_is;
      meta = k1 AtMeta (λ e. omega arith) ∙ it.meta;
      entries = record {
        inbox = one.rows_are ∙ ap (λ (t : State). map in_row t.inbox) same;
        inbox_contents = unchanged (k1 AtInboxPiece (λ e. omega arith)) has.inbox_contents;
        outbox = k1 AtOutbox (λ e. omega arith) ∙ has.outbox;
        outbox_contents = unchanged (k1 AtOutboxPiece (λ e. omega arith)) has.outbox_contents;
        evidence = k1 AtEvidence (λ e. omega arith) ∙ has.evidence;
        waits = k1 AtWaiting (λ e. omega arith) ∙ has.waits;
      };
      version = still_origin (k1 AtOrigin (λ e. omega arith)) it.version;
      begun = still_resent (k1 AtResent (λ e. omega arith)) it.begun;
      left = still_emptied way AtInbox a.now b.now one.others it.left;
      receipts = it.receipts;
      documents = it.documents;
    })

-- ---- the transaction

module _ (begun mid : Connected) (n : ℕ) where
  abbrev Set : ReceiptProgress → ℕ → Type 0
  Set p count = (way : Way) (s : State) → Stands (VersionThree way) begun.now s
      → ChangesTable begun mid (store_schema way) (inbox_tree way)
      (map in_row (change_received s n (with_receipt_progress p)).inbox) × (count ≡ length (filter (λ (e : InEntry). e.number == n) s.inbox))

  pub owes_none : (p : ReceiptProgress) (count : ℕ) → count ≡ 0 → (HasCleanDisk mid → IsTrue begun.is_open) → (HasCleanDisk mid → Set p count)
      → HasCleanDisk mid → Follows begun mid (set_receipt_in n p)
  owes_none p count none opened put clean = record {
    was_open = opened clean;
    reaches = λ s here.
        let one = put clean here.way s here.stands in (
          change_received s n (with_receipt_progress p),
          refl,
          record {
            way = here.way;
            stands = stands_unnumbered here.way begun mid s n p here.stands (sym one.1 ∙ none) one.0;
          },
        );
  }

  pub owes_some : (last : Connected) (w : ℕ) (p : ReceiptProgress) → (n < end_of_numbers → w ≡ n) → (count : ℕ) → count ≢ 0
      → (HasCleanDisk last → HasCleanDisk mid) → (HasCleanDisk mid → IsTrue begun.is_open) → (HasCleanDisk mid → Set p count)
      → (HasCleanDisk last → (way : Way) (ws : List WaitingRow) → HoldsWaiting way mid.now ws
      → RenewsWaiting way mid last (noted_rows (answers_at w p) (map waiting_row (not_at (place_of to_send_receipt w) ws)))) → HasCleanDisk last
      → Follows begun last (set_receipt_in n p)
  owes_some last w p within count some was opened put renewed clean = record {
    was_open = opened (was clean);
    reaches = λ s here.
        let way = here.way in
        let one = put (was clean) way s here.stands in
        let two = renewed clean way (all_waiting s) (holds way begun mid s here.stands _ one.0) in (
          change_received s n (with_receipt_progress p),
          refl,
          record { way = way; stands = stands_owed way begun mid last s n w p within here.stands (λ none. some (one.1 ∙ none)) one.0 two },
        );
  }
