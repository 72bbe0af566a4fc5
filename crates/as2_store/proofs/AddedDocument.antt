-- What the tables stand for with a document more.
use Rattle.std.proofs.Common.{◌≡◌, ℕ, ◌+◌, ◌<◌, nat_le, List, [], ◌∷◌, ◌++◌, map, option_map, Some, None, IsTrue, Ok, cond, refl, sym, ap, subst, ◌∙◌, arith, append-nil}
use Rattle.std.specs.List.{AllByRecursion, cons_option}
use Rattle.std.proofs.lemmas.List.Concat.{flat_map-append}
use Rattle.std.proofs.lemmas.List.Elements.{filter_map-append}
use Rattle.sqlite.specs.Store.{Ghosts}
use Rattle.sqlite.specs.Held.{Held, state}
use Rattle.sqlite.specs.Tree.{put_row}
use Rattle.sqlite.specs.State.{State as Connected, HasCleanDisk, Executes}
use Rattle.sql_tables.specs.Changes.{ChangesTable, HasRows}
use Rattle.sql_tables.proofs.Sorting.{unchanged}
use Rattle.sql_tables.proofs.Writes.{cast_int, cast_null, IsOneRow, inserts_given}
use Rattle.as2_exchange.specs.State.{State, end_of_numbers}
use Rattle.as2_exchange.specs.Invariants.{AreNumbers}
use Rattle.as2_exchange.specs.declared.inbox.InEntry.{InEntry}
use Rattle.as2_exchange.specs.declared.outbox.OutEntry.{OutEntry}
use Rattle.as2_exchange.proofs.Lists.{map_last, all_weaken}
use Rattle.as2_exchange.proofs.WellFormed.{numbers_push}
use Rattle.as2_rows.specs.Rows.{out_row, out_shown, evidence_row}
use Rattle.as2_rows.specs.Contents.{pieces, piece_shown}
use Rattle.as2_rows.specs.Waiting.{out_waiting}
use Rattle.as2_store.specs.Tables.{Way, VersionThree, current_number, store_schema, meta_tree, outbox_table, outbox_tree, outbox_piece_tree}
use Rattle.as2_store.specs.Stands.{IsWhole, Stands, HasCounters, waiting_row, all_waiting, evidence_rows, outbox_pieces, meta_row}
use Rattle.as2_store.specs.Adding.{AppendsPieces, NotesWaiting, noted_rows, IsEntered}
use Rattle.as2_records.specs.Adding.{with_document, added_document}
use Rattle.as2_store.proofs.Statements.{out_put_text}
use Rattle.as2_store.proofs.Texts.{out_put_terms, out_put_is, out_put_plain}
use Rattle.as2_store.proofs.Marking.{Follows}
use Rattle.as2_store.proofs.NumberedRows.{puts_between}
use Rattle.as2_store.proofs.WaitingRows.{cast_optional}
use Rattle.as2_store.proofs.WaitingAmong.{put_among}
use Rattle.as2_store.proofs.AddedTables.{below_all, itself, wrote}
use Rattle.as2_store.proofs.ResentRows.{resent_more}
use Rattle.as2_store.proofs.Untouched.{AtMeta, AtInbox, AtInboxPiece, AtOutbox, AtOutboxPiece, AtEvidence, AtWaiting, AtOrigin, AtResent, keeping, entries_kept, still_emptied, still_origin, still_resent}

-- ---- the statement

one_out : (d : OutEntry) → IsOneRow outbox_table (out_shown d) out_put_terms 12 (out_row d)
one_out d = record { source = out_row d; made = refl; cast_is = simp (cast_int, cast_null, cast_optional) }

pub puts_out : (way : Way) (old new : Connected) (d : OutEntry) (count : ℕ) → old.now.schema ≡ store_schema way
    → Executes out_put_text (out_shown d) old new (Ok count)
    → ChangesTable old new (store_schema way) outbox_tree (put_row (out_row d) (old.now.trees outbox_tree))
puts_out way old new d count has h =
    inserts_given out_put_text (out_shown d) old new (store_schema way) has 3 outbox_table refl refl out_put_terms 12 (out_row d) (one_out d) refl
    (out_put_is way) (out_put_plain way) count h

-- ---- what waits

noted_document : (s : State) (x : OutEntry) → AreNumbers s.next_out (map (λ (d : OutEntry). d.number) s.outbox)
    → AllByRecursion (λ n. n < end_of_numbers) (map (λ (e : InEntry). e.number) s.inbox)
    → x.number ≡ s.next_out → x.number < end_of_numbers
    → noted_rows (out_waiting x) (map waiting_row (all_waiting s)) ≡ map waiting_row (all_waiting (with_document s x))
noted_document s x outs ins is small =
    ap (λ ds. noted_rows (out_waiting x) (map waiting_row (all_waiting (record s { outbox = ds })))) (sym (append-nil s.outbox))
    ∙ put_among x.number small s.outbox [] s.inbox (below_all (λ (d : OutEntry). d.number) s.next_out x.number s.outbox outs is) tt tt ins x refl

-- ---- the state

pieces_more : (ds : List OutEntry) (x : OutEntry) → outbox_pieces ds ++ pieces x.number x.content ≡ outbox_pieces (ds ++ x ∷ [])
pieces_more ds x = sym (flat_map-append (λ (d : OutEntry). pieces d.number d.content) ds (x ∷ [])
    ∙ ap (λ l. outbox_pieces ds ++ l) (append-nil (pieces x.number x.content)))

no_more_evidence : (ds : List OutEntry) (x : OutEntry) → x.evidence ≡ None → evidence_rows ds ≡ evidence_rows (ds ++ x ∷ [])
no_more_evidence ds x none = sym (
    filter_map-append (λ (d : OutEntry). option_map (evidence_row d.number) d.evidence) ds (x ∷ [])
    ∙ ap (λ o. evidence_rows ds ++ cons_option (option_map (evidence_row x.number) o) []) none
    ∙ append-nil (evidence_rows ds))

-- the row, the pieces and what waits
pub entered_document : (way : Way) (a b c d : Connected) (s : State) (x : OutEntry) → Stands (VersionThree way) a.now s → x.number < end_of_numbers
    → x.evidence ≡ None → x.begun ≡ nat_le 1 x.tries
    → ChangesTable a b (store_schema way) outbox_tree (put_row (out_row x) (a.now.trees outbox_tree))
    → AppendsPieces way b c outbox_piece_tree (pieces x.number x.content) → NotesWaiting way c d (out_waiting x)
    → IsEntered way d.now s x.number s.next_out (with_document s x)
entered_document way a b c d s x it small unsettled tried one two three =
    let has = it.entries in
    let note = wrote way c d (out_waiting x) two.schema_is three in
    let k1 = keeping way AtOutbox a.now.trees b.now.trees one.others in
    let k2 = keeping way AtOutboxPiece b.now.trees c.now.trees two.others in
    let k3 = keeping way AtWaiting c.now.trees d.now.trees note.others in
    let low = all_weaken (λ n. n < s.next_in) (λ n. n < end_of_numbers) (λ n less. omega (arith, less, it.receipts.0.most))
    (map (λ (e : InEntry). e.number) s.inbox) it.receipts.1.below in
    record {
      counters = record {
        schema = note.schema_is;
        meta = k3 AtMeta (λ e. omega arith) ∙ k2 AtMeta (λ e. omega arith)
            ∙ k1 AtMeta (λ e. omega arith) ∙ it.meta;
      };
      entries = λ is. record {
        inbox = k3 AtInbox (λ e. omega arith) ∙ k2 AtInbox (λ e. omega arith) ∙ k1 AtInbox (λ e. omega arith) ∙ has.inbox;
        inbox_contents = unchanged
            (k3 AtInboxPiece (λ e. omega arith) ∙ k2 AtInboxPiece (λ e. omega arith) ∙ k1 AtInboxPiece (λ e. omega arith)) has.inbox_contents;
        outbox = k3 AtOutbox (λ e. omega arith) ∙ k2 AtOutbox (λ e. omega arith) ∙ one.rows_are
            ∙ ap (put_row (out_row x)) (has.outbox ∙ ap (map out_row) (sym (append-nil s.outbox)))
            ∙ puts_between out_row (λ (q : OutEntry). q.number) (λ _. refl) x s.outbox []
            (below_all (λ (q : OutEntry). q.number) s.next_out x.number s.outbox it.documents.1 is) tt;
        outbox_contents = subst (λ ps. HasRows (d.now.trees outbox_piece_tree) (map piece_shown ps)) (pieces_more s.outbox x)
            (unchanged (k3 AtOutboxPiece (λ e. omega arith))
            (two.pieces_are (outbox_pieces s.outbox) (unchanged (k1 AtOutboxPiece (λ e. omega arith)) has.outbox_contents)));
        evidence = k3 AtEvidence (λ e. omega arith) ∙ k2 AtEvidence (λ e. omega arith) ∙ k1 AtEvidence (λ e. omega arith) ∙ has.evidence
            ∙ no_more_evidence s.outbox x unsettled;
        waits = note.rows_are ∙ ap (noted_rows (out_waiting x)) (k2 AtWaiting (λ e. omega arith) ∙ k1 AtWaiting (λ e. omega arith) ∙ has.waits)
            ∙ noted_document s x it.documents.1 low is small;
      };
      version = still_origin (k3 AtOrigin (λ e. omega arith) ∙ k2 AtOrigin (λ e. omega arith) ∙ k1 AtOrigin (λ e. omega arith)) it.version;
      begun = λ is. still_resent (k3 AtResent (λ e. omega arith) ∙ k2 AtResent (λ e. omega arith) ∙ k1 AtResent (λ e. omega arith))
          (resent_more _ s.next_out s.outbox x it.documents.1 is tried it.begun);
      left = still_emptied way AtWaiting c.now d.now note.others
          (still_emptied way AtOutboxPiece b.now c.now two.others (still_emptied way AtOutbox a.now b.now one.others it.left));
    }

-- and then the counter
stands_submitted : (way : Way) (a d e : Connected) (s : State) (x : OutEntry) → Stands (VersionThree way) a.now s → x.number ≡ s.next_out
    → x.number < end_of_numbers → IsEntered way d.now s x.number s.next_out (with_document s x)
    → ChangesTable d e (store_schema way) meta_tree (meta_row current_number s.next_in (x.number + 1) ∷ [])
    → Stands (VersionThree way) e.now (with_document s x)
unfolding IsWhole
stands_submitted way a d e s x it is small mid four =
    let k4 = keeping way AtMeta d.now.trees e.now.trees four.others in
    record {
      sound = four.sound;
      schema = four.schema_is;
      meta = four.rows_are ∙ ap (λ n. meta_row current_number s.next_in (n + 1) ∷ []) is;
      entries = entries_kept way AtMeta d.now e.now _ (λ n low high e. omega (arith, low, high, e)) four.others (mid.entries is);
      version = still_origin (k4 AtOrigin (λ e. omega arith)) mid.version;
      begun = still_resent (k4 AtResent (λ e. omega arith)) (mid.begun is);
      left = still_emptied way AtMeta d.now e.now four.others mid.left;
      receipts = it.receipts;
      documents = (
        record { least = omega (arith, it.documents.0.least); most = omega (arith, small, is) },
        subst (AreNumbers (s.next_out + 1))
            (sym (map_last (λ (q : OutEntry). q.number) s.outbox x ∙ ap (λ k. map (λ (q : OutEntry). q.number) s.outbox ++ k ∷ []) is))
            (numbers_push s.next_out (map (λ (q : OutEntry). q.number) s.outbox) it.documents.1),
      );
    }

-- a document is added under the next number, and under no other
pub adds_document : (begun mid last : Connected) (x : OutEntry) → x.number < end_of_numbers
    → (HasCleanDisk last → HasCleanDisk mid)
    → (HasCleanDisk mid → IsTrue begun.is_open)
    → (HasCleanDisk mid → (way : Way) (s : State) → Stands (VersionThree way) begun.now s
    → IsEntered way mid.now s x.number s.next_out (with_document s x))
    → (HasCleanDisk last → (way : Way) (n m : ℕ) → HasCounters way mid.now n m → (x.number ≡ m)
    × ChangesTable mid last (store_schema way) meta_tree (meta_row current_number n (x.number + 1) ∷ [])) → HasCleanDisk last
    → Follows begun last (added_document x)
adds_document begun mid last x small was opened put raised clean = record {
  was_open = opened (was clean);
  reaches = λ s here.
      let way = here.way in
      let one = put (was clean) way s here.stands in
      let two = raised clean way s.next_in s.next_out one.counters in (
        with_document s x,
        ap (λ t. cond t (Some (with_document s x)) None) (itself x.number s.next_out two.0),
        record { way = way; stands = stands_submitted way begun mid last s x here.stands two.0 small one two.1 },
      );
}
