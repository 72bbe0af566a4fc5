-- What the tables stand for with an entry more.
use Rattle.std.proofs.Common.{◌≡◌, ◌≢◌, ℕ, ◌+◌, ◌<◌, List, [], ◌∷◌, ◌++◌, map, Option, Some, None, refl, sym, ap, subst, ◌∙◌, arith, append-nil, ◌==◌, cond, IsTrue, true}
use Rattle.std.proofs.lemmas.Bool.Decides.{nat_tests}
use Rattle.sqlite.specs.Store.{Ghosts}
use Rattle.sqlite.specs.Held.{Held, state}
use Rattle.std.specs.List.{AllByRecursion}
use Rattle.sqlite.specs.Order.{Row}
use Rattle.sqlite.specs.Table.{Table}
use Rattle.sqlite.specs.Tree.{Trees, put_row}
use Rattle.sqlite.specs.State.{State as Connected, HasCleanDisk}
use Rattle.std.proofs.lemmas.List.Concat.{flat_map-append}
use Rattle.sql_tables.specs.Changes.{ChangesTable, HasRows}
use Rattle.sql_tables.proofs.Sorting.{unchanged}
use Rattle.as2_exchange.specs.State.{State, end_of_numbers}
use Rattle.as2_exchange.specs.Invariants.{AreNumbers}
use Rattle.as2_exchange.specs.declared.inbox.InEntry.{InEntry}
use Rattle.as2_exchange.specs.declared.outbox.OutEntry.{OutEntry}
use Rattle.as2_exchange.proofs.Lists.{map_last, all_weaken}
use Rattle.as2_exchange.proofs.WellFormed.{numbers_push}
use Rattle.as2_rows.specs.Rows.{in_row}
use Rattle.as2_rows.specs.Contents.{pieces, piece_shown}
use Rattle.as2_rows.specs.Waiting.{WaitingRow, in_waiting}
use Rattle.as2_store.specs.Tables.{Way, VersionThree, current_number, store_schema, meta_tree, inbox_tree, inbox_piece_tree, waiting_tree}
use Rattle.as2_store.specs.Stands.{IsWhole, Stands, HasCounters, inbox_pieces, meta_row}
use Rattle.as2_store.specs.Adding.{AppendsPieces, NotesWaiting, noted_rows, IsEntered}
use Rattle.as2_records.specs.Adding.{with_received, state_with}
use Rattle.as2_store.proofs.Marking.{Follows}
use Rattle.as2_store.proofs.NumberedRows.{puts_between}
use Rattle.as2_store.proofs.WaitingRows.{noted}
use Rattle.as2_store.proofs.Untouched.{AtMeta, AtInbox, AtInboxPiece, AtOutbox, AtOutboxPiece, AtEvidence, AtWaiting, AtOrigin, AtResent, keeping, entries_kept, still_emptied, still_origin, still_resent}

-- what a write of one table, or of none, leaves
pub record Wrote (way : Way) (old new : Connected) (tree : ℕ) (rows : List Row) : Type 0 where
  pub schema_is : new.now.schema ≡ store_schema way
  pub rows_are : new.now.trees tree ≡ rows
  pub others : AllByRecursion (λ t. t.tree ≢ tree → new.now.trees t.tree ≡ old.now.trees t.tree) (store_schema way).tables

all_same : (old new : Trees) (tree : ℕ) → new ≡ old → (tables : List Table) → AllByRecursion (λ t. t.tree ≢ tree → new t.tree ≡ old t.tree) tables
all_same old new tree same [] = tt
all_same old new tree same (t ∷ tables) = (λ _. ap (λ (f : Trees). f t.tree) same, all_same old new tree same tables)

pub wrote : (way : Way) (old new : Connected) (o : Option WaitingRow) → old.now.schema ≡ store_schema way → NotesWaiting way old new o
    → Wrote way old new waiting_tree (noted_rows o (old.now.trees waiting_tree))
wrote way old new None has same = record {
  schema_is = ap (λ d. d.schema) same ∙ has;
  rows_are = ap (λ d. d.trees waiting_tree) same;
  others = all_same old.now.trees new.now.trees waiting_tree (ap (λ d. d.trees) same) (store_schema way).tables;
}
wrote way old new (Some w) has it = record { schema_is = it.schema_is; rows_are = it.rows_are; others = it.others }

pieces_more : (s : State) (x : InEntry) → inbox_pieces s.inbox ++ pieces x.number x.posted.content ≡ inbox_pieces (s.inbox ++ x ∷ [])
pieces_more s x = sym (flat_map-append (λ (e : InEntry). pieces e.number e.posted.content) s.inbox (x ∷ [])
    ∙ ap (λ l. inbox_pieces s.inbox ++ l) (append-nil (pieces x.number x.posted.content)))

pub below_all : {E : Type 0} (number : E → ℕ) (next n : ℕ) (es : List E) → AreNumbers next (map number es) → n ≡ next → AllByRecursion (λ q. number q < n) es
below_all {E} number next n es h is = subst (λ n. AllByRecursion (λ q. number q < n) es) (sym is) (from (λ n. n < next) es h.below)
  where
    from : (P : ℕ → Type 0) (es : List E) → AllByRecursion P (map number es) → AllByRecursion (λ q. P (number q)) es
    from P [] all = tt
    from P (e ∷ es) all = (all.0, from P es all.1)

-- the row, the pieces and what waits
pub entered : (way : Way) (a b c d : Connected) (s : State) (x : InEntry) → Stands (VersionThree way) a.now s → x.number < end_of_numbers
    → ChangesTable a b (store_schema way) (inbox_tree way) (put_row (in_row x) (a.now.trees (inbox_tree way)))
    → AppendsPieces way b c (inbox_piece_tree way) (pieces x.number x.posted.content) → NotesWaiting way c d (in_waiting x)
    → IsEntered way d.now s x.number s.next_in (with_received s x)
entered way a b c d s x it small one two three =
    let has = it.entries in
    let note = wrote way c d (in_waiting x) two.schema_is three in
    let k1 = keeping way AtInbox a.now.trees b.now.trees one.others in
    let k2 = keeping way AtInboxPiece b.now.trees c.now.trees two.others in
    let k3 = keeping way AtWaiting c.now.trees d.now.trees note.others in
    let low = all_weaken (λ n. n < s.next_out) (λ n. n < end_of_numbers) (λ n less. omega (arith, less, it.documents.0.most))
    (map (λ (o : OutEntry). o.number) s.outbox) it.documents.1.below in
    record {
      counters = record {
        schema = note.schema_is;
        meta = k3 AtMeta (λ e. omega arith) ∙ k2 AtMeta (λ e. omega arith)
            ∙ k1 AtMeta (λ e. omega arith) ∙ it.meta;
      };
      entries = λ is. record {
        inbox = k3 AtInbox (λ e. omega arith) ∙ k2 AtInbox (λ e. omega arith) ∙ one.rows_are
            ∙ ap (put_row (in_row x)) (has.inbox ∙ ap (map in_row) (sym (append-nil s.inbox)))
            ∙ puts_between in_row (λ (q : InEntry). q.number) (λ _. refl) x s.inbox []
            (below_all (λ (q : InEntry). q.number) s.next_in x.number s.inbox it.receipts.1 is) tt;
        inbox_contents = subst (λ ps. HasRows (d.now.trees (inbox_piece_tree way)) (map piece_shown ps)) (pieces_more s x)
            (unchanged (k3 AtInboxPiece (λ e. omega arith))
            (two.pieces_are (inbox_pieces s.inbox) (unchanged (k1 AtInboxPiece (λ e. omega arith)) has.inbox_contents)));
        outbox = k3 AtOutbox (λ e. omega arith) ∙ k2 AtOutbox (λ e. omega arith) ∙ k1 AtOutbox (λ e. omega arith) ∙ has.outbox;
        outbox_contents = unchanged
            (k3 AtOutboxPiece (λ e. omega arith) ∙ k2 AtOutboxPiece (λ e. omega arith) ∙ k1 AtOutboxPiece (λ e. omega arith)) has.outbox_contents;
        evidence = k3 AtEvidence (λ e. omega arith) ∙ k2 AtEvidence (λ e. omega arith) ∙ k1 AtEvidence (λ e. omega arith) ∙ has.evidence;
        waits = note.rows_are ∙ ap (noted_rows (in_waiting x)) (k2 AtWaiting (λ e. omega arith) ∙ k1 AtWaiting (λ e. omega arith) ∙ has.waits)
            ∙ noted s x it.receipts.1.below low is small;
      };
      version = still_origin (k3 AtOrigin (λ e. omega arith) ∙ k2 AtOrigin (λ e. omega arith) ∙ k1 AtOrigin (λ e. omega arith)) it.version;
      begun = λ is. still_resent (k3 AtResent (λ e. omega arith) ∙ k2 AtResent (λ e. omega arith) ∙ k1 AtResent (λ e. omega arith)) it.begun;
      left = still_emptied way AtWaiting c.now d.now note.others
          (still_emptied way AtInboxPiece b.now c.now two.others (still_emptied way AtInbox a.now b.now one.others it.left));
    }

-- and then the counter
pub stands_received : (way : Way) (a d e : Connected) (s : State) (x : InEntry) → Stands (VersionThree way) a.now s → x.number ≡ s.next_in
    → x.number < end_of_numbers → IsEntered way d.now s x.number s.next_in (with_received s x)
    → ChangesTable d e (store_schema way) meta_tree (meta_row current_number (x.number + 1) s.next_out ∷ [])
    → Stands (VersionThree way) e.now (with_received s x)
unfolding IsWhole
stands_received way a d e s x it is small mid four =
    let k4 = keeping way AtMeta d.now.trees e.now.trees four.others in
    record {
      sound = four.sound;
      schema = four.schema_is;
      meta = four.rows_are ∙ ap (λ n. meta_row current_number (n + 1) s.next_out ∷ []) is;
      entries = entries_kept way AtMeta d.now e.now _ (λ n low high e. omega (arith, low, high, e)) four.others (mid.entries is);
      version = still_origin (k4 AtOrigin (λ e. omega arith)) mid.version;
      begun = still_resent (k4 AtResent (λ e. omega arith)) (mid.begun is);
      left = still_emptied way AtMeta d.now e.now four.others mid.left;
      receipts = (
        record { least = omega (arith, it.receipts.0.least); most = omega (arith, small, is) },
        subst (AreNumbers (s.next_in + 1))
            (sym (map_last (λ (q : InEntry). q.number) s.inbox x ∙ ap (λ k. map (λ (q : InEntry). q.number) s.inbox ++ k ∷ []) is))
            (numbers_push s.next_in (map (λ (q : InEntry). q.number) s.inbox) it.receipts.1),
      );
      documents = it.documents;
    }

pub itself : (m n : ℕ) → m ≡ n → (m == n) ≡ true
itself m n same = grind (arith, nat_tests, same)

-- an entry is added under the next number, and under no other
pub adds : (begun mid last : Connected) (x : InEntry) → x.number < end_of_numbers → (HasCleanDisk last → HasCleanDisk mid)
    → (HasCleanDisk mid → IsTrue begun.is_open)
    → (HasCleanDisk mid → (way : Way) (s : State) → Stands (VersionThree way) begun.now s
    → IsEntered way mid.now s x.number s.next_in (with_received s x))
    → (HasCleanDisk last → (way : Way) (n m : ℕ) → HasCounters way mid.now n m → (x.number ≡ n)
    × ChangesTable mid last (store_schema way) meta_tree (meta_row current_number (x.number + 1) m ∷ [])) → HasCleanDisk last
    → Follows begun last (state_with x)
adds begun mid last x small was opened put raised clean = record {
  was_open = opened (was clean);
  reaches = λ s here.
      let way = here.way in
      let one = put (was clean) way s here.stands in
      let two = raised clean way s.next_in s.next_out one.counters in (
        with_received s x,
        ap (λ t. cond t (Some (with_received s x)) None) (itself x.number s.next_in two.0),
        record { way = way; stands = stands_received way begun mid last s x here.stands two.0 small one two.1 },
      );
}
