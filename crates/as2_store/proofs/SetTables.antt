-- What the tables stand for once a document has come further.
use Rattle.std.proofs.Common.{◌≡◌, ◌≢◌, ℕ, ◌<◌, ◌≤◌, ◌==◌, List, [], ◌∷◌, map, filter, length, nat_lt, nat_le, ◌||◌, Result, Ok, Some, option_map, IsTrue, Bool, true, false, true≢false, cond, pos, inl, inr, refl, sym, ap, ap₂, subst, ◌∙◌, arith}
use Rattle.std.specs.List.{AllByRecursion}
use Rattle.std.proofs.lemmas.Bool.{cases_Bool}
use Rattle.std.proofs.lemmas.Bool.Decides.{nat_tests}
use Rattle.sqlite.specs.declared.types.Value.TheVariants.{Int}
use Rattle.sqlite.specs.Order.{Row}
use Rattle.sqlite.specs.Store.{Ghosts}
use Rattle.sqlite.specs.Held.{Held, state}
use Rattle.sqlite.specs.State.{State as Connected, HasCleanDisk, Executes, KeepsCommit}
use Rattle.sql_tables.specs.Changes.{ChangesTable, HasRows}
use Rattle.sql_tables.proofs.Sorting.{unchanged}
use Rattle.sql_tables.proofs.Changing.{updates}
use Rattle.sql_tables.proofs.Writes.{cast_int, cast_null}
use Rattle.as2_exchange.specs.State.{State, end_of_numbers, document, change_document}
use Rattle.as2_exchange.specs.Invariants.{AreNumbers}
use Rattle.as2_exchange.specs.declared.outbox.OutEntry.{OutEntry}
use Rattle.as2_rows.specs.Rows.{whole, whole_or_null, out_row}
use Rattle.as2_rows.specs.Codes.{attempt_code, detail_code}
use Rattle.as2_rows.specs.Contents.{piece_shown}
use Rattle.as2_rows.specs.Waiting.{WaitingRow}
use Rattle.as2_records.specs.declared.progress.Progress.{Progress}
use Rattle.as2_store.specs.Rounds.{WritesBy}
use Rattle.as2_store.specs.Tables.{Way, VersionThree, store_schema, outbox_table, outbox_tree, outbox_piece_tree, resent_tree}
use Rattle.as2_store.specs.Stands.{IsWhole, Stands, Holds, HasResent, resent_row, waiting_row, all_waiting}
use Rattle.as2_store.specs.Adding.{noted_rows}
use Rattle.as2_store.specs.Requeuing.{HoldsWaiting, RenewsWaiting}
use Rattle.as2_store.specs.Settling.{without_document}
use Rattle.as2_store.specs.Progressing.{waits_at}
use Rattle.as2_store.specs.Resending.{IsMarked, IsReady}
use Rattle.as2_mdn.specs.declared.detail.Detail.TheVariants.{New}
use Rattle.as2_exchange.specs.declared.attempt.Attempt.TheVariants.{Idle}
use Rattle.as2_records.specs.Progressing.{come_to, set_out_in}
use Rattle.as2_records.specs.Resending.{queued_anew, resent_in}
use Rattle.as2_store.proofs.Statements.{out_set_text}
use Rattle.as2_store.proofs.Texts.{number_terms, set_project, out_set_is, out_set_plain}
use Rattle.as2_store.proofs.ForeignKeys.{quiet}
use Rattle.as2_store.proofs.Marking.{Follows}
use Rattle.as2_store.proofs.NumberedRows.{numbers_rise, entries_rise}
use Rattle.as2_store.proofs.NumberedEntries.{Split, changed, out_number, split}
use Rattle.as2_store.proofs.Untouched.{AtMeta, AtInbox, AtInboxPiece, AtOutbox, AtOutboxPiece, AtEvidence, AtWaiting, AtOrigin, AtResent, keeping, still_emptied, still_origin, still_resent}
use Rattle.as2_store.proofs.WaitingRows.{cast_optional}
use Rattle.as2_store.proofs.ChangedDocuments.{changed_rows, numbered, same_numbers, same_pieces, same_evidence, waits_changed}
use Rattle.as2_store.proofs.OwedTables.{places_in_order}
use Rattle.as2_store.proofs.SettledTables.{given}
use Rattle.as2_store.proofs.Unsettled.{some_found}

-- ---- the statement

abbrev pub set_more : Progress → Row
set_more p = whole p.tries ∷ whole (attempt_code p.attempt) ∷ whole_or_null p.due ∷ whole (detail_code p.detail) ∷ []

abbrev pub set_params : ℕ → Progress → Row
set_params n p = Int (pos n) ∷ set_more p

pub sets : {way : Way} (n count : ℕ) (p : Progress) (old new : Connected) (s : State) → Stands (VersionThree way) old.now s
    → Executes out_set_text (set_params n p) old new (Ok count)
    → ChangesTable old new (store_schema way) outbox_tree (map out_row (change_document s n (come_to p)).outbox)
    × (count ≡ length (filter (λ (d : OutEntry). d.number == n) s.outbox))
sets {way} n count p old new s it h =
    let done = updates out_set_text (set_params n p) old new (store_schema way) it.schema 3 outbox_table refl number_terms set_project
    (λ (d : OutEntry). pos d.number) out_row (λ _. refl) (λ (d : OutEntry). out_row (come_to p d)) (λ _. refl)
    (λ d. simp (cast_int, cast_null, cast_optional)) s.outbox it.entries.outbox
    (entries_rise out_row (λ (d : OutEntry). d.number) (λ _. refl) s.next_out s.outbox it.documents.1) (quiet way outbox_tree) (out_set_is way)
    (out_set_plain way) count h in (
      subst (ChangesTable old new (store_schema way) outbox_tree) (changed_rows (come_to p) n (set_more p) s.outbox) done.0,
      done.1
          ∙ ap length (numbered n (set_more p) s.outbox),
    )

-- ---- which documents are begun

-- the document of this number is begun by its tries or by its row, as it was
module _ (p : Progress) (n : ℕ) (rows : List Row) where
  set_begun : (ds : List OutEntry) → (it : HasResent rows ds)
      → (nat_le 1 p.tries ≡ false → AllByRecursion (λ d. (d.number == n) ≡ true → d.begun ≡ it.was d.number) ds)
      → HasResent rows (changed out_number n (come_to p) ds)
  set_begun ds it own = record {
    was = it.was;
    rows_are = it.rows_are ∙ ap (λ ns. map resent_row (filter it.was ns)) (sym (same_numbers (come_to p) (λ _. refl) n ds));
    begun = each ds it.begun own;
  }
    where
      or_true : (b : Bool) → (b || true) ≡ true
      or_true true = refl
      or_true false = refl

      or_false : (b : Bool) → (b || false) ≡ b
      or_false true = refl
      or_false false = refl

      both : (begun was b : Bool) → (b ≡ false → begun ≡ was) → (begun || b) ≡ (b || was)
      both begun was true own = or_true begun
      both begun was false own = or_false begun ∙ own refl

      one : (d : OutEntry) (t : Bool) → (nat_le 1 p.tries ≡ false → t ≡ true → d.begun ≡ it.was d.number) → d.begun ≡ (nat_le 1 d.tries || it.was d.number)
          → (cond t (come_to p d) d).begun ≡ (nat_le 1 (cond t (come_to p d) d).tries || it.was (cond t (come_to p d) d).number)
      one d true own is = both d.begun (it.was d.number) (nat_le 1 p.tries) (λ none. own none refl)
      one d false own is = is

      each : (ds : List OutEntry) → AllByRecursion (λ d. d.begun ≡ (nat_le 1 d.tries || it.was d.number)) ds
          → (nat_le 1 p.tries ≡ false → AllByRecursion (λ d. (d.number == n) ≡ true → d.begun ≡ it.was d.number) ds)
          → AllByRecursion (λ d. d.begun ≡ (nat_le 1 d.tries || it.was d.number)) (changed out_number n (come_to p) ds)
      each [] all own = tt
      each (d ∷ ds) all own = (one d (d.number == n) (λ none. (own none).0) all.0, each ds all.1 (λ none. (own none).1))

  resent_set : (ds : List OutEntry) → HasResent rows ds → (nat_le 1 p.tries ≡ false → IsMarked rows ds n) → HasResent rows (changed out_number n (come_to p) ds)
  resent_set ds it marked = go (nat_le 1 p.tries) refl
    where
      go : (t : Bool) → nat_le 1 p.tries ≡ t → HasResent rows (changed out_number n (come_to p) ds)
      go true is = set_begun ds it (λ none. absurd (true≢false (sym is ∙ none)))
      go false is = let own = marked is in set_begun ds own.resent (λ none. own.own)

-- ---- the state

stands_set : (way : Way) (a b c : Connected) (s : State) (n : ℕ) (p : Progress) → Stands (VersionThree way) a.now s
    → (nat_le 1 p.tries ≡ false → IsMarked (a.now.trees (resent_tree way)) s.outbox n) → Split out_number n s.outbox
    → ChangesTable a b (store_schema way) outbox_tree (map out_row (change_document s n (come_to p)).outbox)
    → RenewsWaiting way b c (noted_rows (waits_at n p) (map waiting_row (without_document n (all_waiting s))))
    → Stands (VersionThree way) c.now (change_document s n (come_to p))
unfolding IsWhole
stands_set way a b c s n p it marked place one two =
    let has = it.entries in
    let k1 = keeping way AtOutbox a.now.trees b.now.trees one.others in
    let k2 = keeping way AtWaiting b.now.trees c.now.trees two.others in
    record {
      sound = two.sound;
      schema = two.schema_is;
      meta = k2 AtMeta (λ e. omega arith) ∙ k1 AtMeta (λ e. omega arith) ∙ it.meta;
      entries = record {
        inbox = k2 AtInbox (λ e. omega arith) ∙ k1 AtInbox (λ e. omega arith) ∙ has.inbox;
        inbox_contents = unchanged (k2 AtInboxPiece (λ e. omega arith) ∙ k1 AtInboxPiece (λ e. omega arith)) has.inbox_contents;
        outbox = k2 AtOutbox (λ e. omega arith) ∙ one.rows_are;
        outbox_contents = subst (λ ps. HasRows (c.now.trees outbox_piece_tree) (map piece_shown ps))
            (sym (same_pieces (come_to p) (λ _. refl) n (λ _. refl) s.outbox))
            (unchanged (k2 AtOutboxPiece (λ e. omega arith) ∙ k1 AtOutboxPiece (λ e. omega arith)) has.outbox_contents);
        evidence = k2 AtEvidence (λ e. omega arith) ∙ k1 AtEvidence (λ e. omega arith) ∙ has.evidence
            ∙ sym (same_evidence (come_to p) (λ _. refl) n (λ _. refl) s.outbox);
        waits = two.rows_are ∙ ap (λ k. noted_rows (waits_at k p) (map waiting_row (without_document n (all_waiting s)))) (sym place.here)
            ∙ waits_changed (come_to p) (λ _. refl) n a.now s it place;
      };
      version = still_origin (k2 AtOrigin (λ e. omega arith) ∙ k1 AtOrigin (λ e. omega arith)) it.version;
      begun = still_resent (k2 AtResent (λ e. omega arith) ∙ k1 AtResent (λ e. omega arith))
          (resent_set p n (a.now.trees (resent_tree way)) s.outbox it.begun marked);
      left = still_emptied way AtWaiting b.now c.now two.others (still_emptied way AtOutbox a.now b.now one.others it.left);
      receipts = it.receipts;
      documents = (it.documents.0, subst (AreNumbers s.next_out) (sym (same_numbers (come_to p) (λ _. refl) n s.outbox)) it.documents.1);
    }

-- ---- the transaction

-- an Ok of the statements: there is such a document
pub comes_further : (begun mid one last : Connected) (n w : ℕ) (p : Progress) → (end_of_numbers ≤ n → w ≡ end_of_numbers)
    → (n < end_of_numbers → w ≡ n)
    → (count : ℕ) → count ≢ 0 → (HasCleanDisk last → HasCleanDisk one) → (HasCleanDisk one → HasCleanDisk mid)
    → (HasCleanDisk mid → KeepsCommit begun mid) → (HasCleanDisk one → IsTrue mid.is_open)
    → (HasCleanDisk mid → (way : Way) (s : State) → Stands (VersionThree way) begun.now s → IsReady way mid.now s w p.tries)
    → (HasCleanDisk one → (way : Way) (s : State) → Stands (VersionThree way) mid.now s
    → ChangesTable mid one (store_schema way) outbox_tree (map out_row (change_document s w (come_to p)).outbox)
    × (count ≡ length (filter (λ (d : OutEntry). d.number == w) s.outbox)))
    → (HasCleanDisk last → (way : Way) (ws : List WaitingRow) → HoldsWaiting way one.now ws
    → RenewsWaiting way one last (noted_rows (waits_at w p) (map waiting_row (without_document w ws))))
    → HasCleanDisk last → Follows begun last (set_out_in n p)
comes_further begun mid one last n w p beyond within count some was was_mid kept open_then readied set renewed clean =
    let opened = (kept (was_mid (was clean))).was_open (open_then (was clean)) in
    record {
      was_open = opened;
      reaches = λ s here.
          let way = here.way in
          let ready = readied (was_mid (was clean)) way s here.stands in
          let stood = ready.stands in
          let first = set (was clean) way s stood in
          let many : length (filter (λ (d : OutEntry). d.number == w) s.outbox) ≢ 0 = λ none. some (first.1 ∙ none) in
          let found = some_found (λ (d : OutEntry). d.number == w) s.outbox many in
          let place = split out_number w s.outbox (numbers_rise out_number s.next_out s.outbox stood.documents.1) many in
          let waits : HoldsWaiting way one.now (all_waiting s) =
          record {
            schema = first.0.schema_is;
            rows = first.0.others.1.1.1.1.1.1.0 (λ e. omega arith)
                ∙ stood.entries.waits;
            in_order = places_in_order mid.now s stood;
          } in
          let stands : Holds last.now (change_document s w (come_to p)) =
          record { way = way; stands = stands_set way mid one last s w p stood ready.marked place first.0 (renewed clean way (all_waiting s) waits) } in
          subst (λ k. (t : State) × (set_out_in k p s ≡ Some t) × Holds last.now t) (same_number (given mid s w found.0 stood found.1))
          (change_document s w (come_to p), found_next s w p found.0 found.1, stands);
    }
  where
    found_next : (s : State) (k : ℕ) (p : Progress) (d : OutEntry) → document s k ≡ Some d → set_out_in k p s ≡ Some (change_document s k (come_to p))
    found_next s k p d found = rw found refl

    same_number : w < end_of_numbers → w ≡ n
    same_number low = elim (cases_Bool (nat_lt n end_of_numbers)) [
      | inl small ↦ within (grind (arith, nat_tests, small))
      | inr large ↦ absurd (let end : w ≡ end_of_numbers = beyond (grind (arith, nat_tests, large)) in omega (arith, low, end))
    ]

-- ---- to be sent anew

-- a document that is queued anew has come so far
abbrev pub anew : ℕ → Progress
anew m = record { tries = 0; attempt = Idle; due = Some m; detail = New }

queued_so : (m : ℕ) (d : OutEntry) → come_to (anew m) d ≡ queued_anew m d
queued_so m d = ap (λ b. record d { begun = b; tries = 0; attempt = Idle; due = Some m; detail = New }) (or_false d.begun)
  where
    or_false : (b : Bool) → (b || false) ≡ b
    or_false true = refl
    or_false false = refl

queues_one : (n m : ℕ) (s : State) → change_document s n (come_to (anew m)) ≡ change_document s n (queued_anew m)
queues_one n m s = ap (λ ds. record s { outbox = ds }) (each s.outbox)
  where
    each : (ds : List OutEntry)
        → map (λ (d : OutEntry). cond (d.number == n) (come_to (anew m) d) d) ds ≡ map (λ (d : OutEntry). cond (d.number == n) (queued_anew m d) d) ds
    each [] = refl
    each (d ∷ ds) = ap₂ ◌∷◌ (ap (λ x. cond (d.number == n) x d) (queued_so m d)) (each ds)

pub queues : (n m : ℕ) → set_out_in n (anew m) ≡ resent_in n m
queues n m = λ i s. option_map (λ _. queues_one n m s i) (document s n)

pub queued : {A E : Type 0} (n m : ℕ) (old new : Connected) (r : Result A E) → WritesBy (set_out_in n (anew m)) old new r
    → WritesBy (resent_in n m) old new r
queued n m old new r it = subst (λ next. WritesBy next old new r) (queues n m) it
