-- What the tables stand for once a receipt has settled a document.
use Rattle.std.proofs.Common.{◌≡◌, ℕ, ◌<◌, ◌^◌, ◌==◌, List, [], ◌∷◌, map, filter, find, length, Option, option_map, Some, None, is_some, Bool, true, false, cond, Ok, refl, sym, ap, ap₂, subst, ◌∙◌, ◌≢◌, ◌≤◌, nat_lt, inl, inr, IsTrue, pos, arith, w64, to_z, of_z}
use Rattle.std.specs.List.{AllByRecursion, cons_option}
use Rattle.std.specs.Ordering.{match_ordering}
use Rattle.std.proofs.lemmas.Bool.{cases_Bool}
use Rattle.std.proofs.lemmas.Bool.Decides.{nat_tests}
use Rattle.sqlite.specs.declared.types.Value.TheVariants.{Int}
use Rattle.sqlite.specs.Effect.{Database}
use Rattle.sqlite.specs.Order.{Row}
use Rattle.sqlite.specs.Tree.{put_row, IsAscending}
use Rattle.sqlite.specs.Edit.{are_fresh}
use Rattle.sqlite.specs.Store.{Ghosts}
use Rattle.sqlite.specs.Held.{Held, state}
use Rattle.sqlite.specs.State.{State as Connected, HasCleanDisk, Executes}
use Rattle.sql_tables.specs.Changes.{ChangesTable, HasRows}
use Rattle.sql_tables.proofs.Sorting.{unchanged}
use Rattle.sql_tables.proofs.Changing.{updates}
use Rattle.sql_tables.proofs.Writes.{cast_int, cast_null, IsOneRow, inserts_given, inserts_fresh}
use Rattle.as2_mdn.specs.declared.detail.Detail.{Detail}
use Rattle.as2_mdn.specs.declared.detail.Detail.TheVariants.{New, Sending, Awaiting, Retry, Processed, NoReceiptAsked, Warning, NoMic, UnknownMic, NotProcessed, ErrorModifier, MicDiffers, TriesUsed, Overdue}
use Rattle.as2_exchange.specs.State.{State, end_of_numbers, document, change_document, is_settled}
use Rattle.as2_exchange.specs.Invariants.{AreNumbers, is_by_receipt}
use Rattle.as2_exchange.specs.declared.attempt.Attempt.TheVariants.{Idle}
use Rattle.as2_exchange.specs.declared.outbox.Evidence.{Evidence}
use Rattle.as2_exchange.specs.declared.outbox.OutEntry.{OutEntry}
use Rattle.as2_rows.specs.Rows.{out_row, evidence_row, evidence_shown}
use Rattle.as2_rows.specs.Codes.{detail_code}
use Rattle.as2_rows.specs.Contents.{piece_shown}
use Rattle.as2_rows.specs.Waiting.{WaitingRow, out_kind}
use Rattle.as2_store.specs.Tables.{Way, Layout, VersionThree, store_schema, outbox_table, outbox_tree, outbox_piece_tree, evidence_table, evidence_tree}
use Rattle.as2_store.proofs.Statements.{out_settle_text, evidence_put_text}
use Rattle.as2_store.specs.Stands.{IsWhole, Stands, Holds, place, waiting_row, all_waiting, evidence_rows}
use Rattle.as2_store.specs.Adding.{noted_rows}
use Rattle.as2_store.specs.Requeuing.{HoldsWaiting, RenewsWaiting}
use Rattle.as2_exchange.specs.Documents.{settled_as}
use Rattle.as2_store.specs.Settling.{without_document}
use Rattle.as2_records.specs.Settling.{settled_in}
use Rattle.as2_store.proofs.Marking.{Follows}
use Rattle.as2_store.proofs.Unsettled.{some_found, fresh_unsettled}
use Rattle.as2_store.proofs.MetaRow.{fits_i64}
use Rattle.as2_store.proofs.NumberedRows.{numbers_rise, entries_rise, rises, falls}
use Rattle.as2_store.proofs.ChangedDocuments.{changed_rows, numbered, same_numbers, same_pieces, waits_changed}
use Rattle.as2_store.proofs.NumberedEntries.{Split, out_number, split}
use Rattle.as2_store.proofs.ResentRows.{resent_changed}
use Rattle.as2_store.proofs.Untouched.{AtMeta, AtInbox, AtInboxPiece, AtOutbox, AtOutboxPiece, AtEvidence, AtWaiting, AtOrigin, AtResent, keeping, still_emptied, still_origin, still_resent}
use Rattle.as2_store.proofs.OwedTables.{places_in_order}
use Rattle.as2_store.proofs.QueriedRows.{found_all}
use Rattle.as2_store.proofs.ForeignKeys.{quiet}
use Rattle.as2_store.proofs.Texts.{number_terms, settle_project, out_settle_is, out_settle_plain, evidence_put_terms, evidence_put_is, evidence_put_plain}

-- ---- the document

abbrev pub ended : ℕ → Detail → Evidence → List OutEntry → List OutEntry
ended n detail e ds = map (λ (d : OutEntry). cond (d.number == n) (settled_as detail e d) d) ds

abbrev pub settle_params : ℕ → Detail → Row
settle_params n detail = Int (pos n) ∷ Int (pos (detail_code detail)) ∷ []

pub passed_detail : (detail : Detail) → to_z w64 (of_z w64 (pos (detail_code detail))) ≡ pos (detail_code detail)
passed_detail detail = fits_i64 (detail_code detail) (small detail)
  where
    small : (detail : Detail) → detail_code detail < 2 ^ 63
    small New = omega arith
    small Sending = omega arith
    small Awaiting = omega arith
    small Retry = omega arith
    small Processed = omega arith
    small NoReceiptAsked = omega arith
    small Warning = omega arith
    small NoMic = omega arith
    small UnknownMic = omega arith
    small NotProcessed = omega arith
    small ErrorModifier = omega arith
    small MicDiffers = omega arith
    small TriesUsed = omega arith
    small Overdue = omega arith

pub settles : {way : Way} (n count : ℕ) (detail : Detail) (e : Evidence) (old new : Connected) (s : State) → Stands (VersionThree way) old.now s
    → Executes out_settle_text (settle_params n detail) old new (Ok count)
    → ChangesTable old new (store_schema way) outbox_tree (map out_row (change_document s n (settled_as detail e)).outbox)
    × (count ≡ length (filter (λ (d : OutEntry). d.number == n) s.outbox))
settles {way} n count detail e old new s it h =
    let done = updates out_settle_text (settle_params n detail) old new
    (store_schema way) it.schema 3 outbox_table refl number_terms settle_project (λ (d : OutEntry). pos d.number) out_row (λ _. refl)
    (λ (d : OutEntry). out_row (settled_as detail e d)) (λ _. refl)
    (λ d. simp (cast_int, cast_null)) s.outbox it.entries.outbox
    (entries_rise out_row (λ (d : OutEntry). d.number) (λ _. refl) s.next_out s.outbox it.documents.1) (quiet way outbox_tree)
    (out_settle_is way) (out_settle_plain way) count h in
    let more = Int (pos (detail_code detail)) ∷ [] in (
      subst (ChangesTable old new (store_schema way) outbox_tree) (changed_rows (settled_as detail e) n more s.outbox) done.0,
      done.1
          ∙ ap length (numbered n more s.outbox),
    )

-- ---- its evidence

abbrev pub receipt_params : ℕ → Evidence → Row
receipt_params n e = evidence_shown n e

one_receipt : (n : ℕ) (e : Evidence) → IsOneRow evidence_table (receipt_params n e) evidence_put_terms 5 (evidence_row n e)
one_receipt n e = record { source = evidence_row n e; made = refl; cast_is = simp (cast_int, cast_null) }

pub puts_evidence : (way : Way) (old new : Connected) (n : ℕ) (e : Evidence) (count : ℕ) → old.now.schema ≡ (store_schema way)
    → Executes evidence_put_text (receipt_params n e) old new (Ok count)
    → ChangesTable old new (store_schema way) evidence_tree (put_row (evidence_row n e) (old.now.trees evidence_tree))
puts_evidence way old new n e count has h =
    inserts_given evidence_put_text (receipt_params n e) old new (store_schema way) has 5 evidence_table refl refl evidence_put_terms 5
    (evidence_row n e) (one_receipt n e) refl (evidence_put_is way) (evidence_put_plain way) count h

pub fresh_evidence : (way : Way) (old new : Connected) (n : ℕ) (e : Evidence) (count : ℕ) → old.now.schema ≡ (store_schema way)
    → Executes evidence_put_text (receipt_params n e) old new (Ok count)
    → are_fresh (old.now.trees evidence_tree) (evidence_row n e ∷ []) ≡ true
fresh_evidence way old new n e count has h =
    inserts_fresh evidence_put_text (receipt_params n e) old new (store_schema way) has 5 evidence_table refl refl evidence_put_terms 5
    (evidence_row n e) (one_receipt n e) refl (evidence_put_is way) (evidence_put_plain way) count h

others_stay : (n : ℕ) (detail : Detail) (e : Evidence) (ds : List OutEntry) → AllByRecursion (λ (d : OutEntry). n < d.number) ds → ended n detail e ds ≡ ds
others_stay n detail e [] all = refl
others_stay n detail e (d ∷ ds) all = ap₂ ◌∷◌ (ap (λ t. cond t (settled_as detail e d) d) (other d.number all.0)) (others_stay n detail e ds all.1)
  where
    other : (m : ℕ) → n < m → (m == n) ≡ false
    other m less = grind (arith, nat_tests)

pub found_number : (n : ℕ) (ds : List OutEntry) (d : OutEntry) → find (λ (x : OutEntry). x.number == n) ds ≡ Some d → d.number ≡ n
found_number n [] d found = absurd cc
found_number n (x ∷ ds) d found = go (x.number == n) refl found (found_number n ds d)
  where
    go : (t : Bool) → (x.number == n) ≡ t → cond t (Some x) (find (λ (y : OutEntry). y.number == n) ds) ≡ Some d
        → (find (λ (y : OutEntry). y.number == n) ds ≡ Some d → d.number ≡ n) → d.number ≡ n
    go true is here later = let same : x ≡ d = cc in let it : x.number ≡ n = grind (arith, nat_tests) in ap (λ (y : OutEntry). y.number) (sym same) ∙ it
    go false is here later = later here

-- the row goes before those of greater numbers
put_first : (n : ℕ) (e : Evidence) (ds : List OutEntry) → AllByRecursion (λ (d : OutEntry). n < d.number) ds
    → put_row (evidence_row n e) (evidence_rows ds) ≡ evidence_row n e ∷ evidence_rows ds
put_first n e [] all = refl
put_first n e (d ∷ ds) all = go d.evidence (put_first n e ds all.1)
  where
    go : (o : Option Evidence) → put_row (evidence_row n e) (evidence_rows ds) ≡ evidence_row n e ∷ evidence_rows ds
        → put_row (evidence_row n e) (cons_option (option_map (evidence_row d.number) o) (evidence_rows ds)) ≡ evidence_row n e ∷ cons_option
        (option_map (evidence_row d.number) o) (evidence_rows ds)
    go None rest = rest
    go (Some r) rest =
        ap (λ o. match_ordering o (evidence_row d.number r ∷ put_row (evidence_row n e) (evidence_rows ds)) (evidence_row n e ∷ evidence_rows ds)
        (evidence_row n e ∷ evidence_row d.number r ∷ evidence_rows ds)) (falls d.number n all.0)

-- and behind those of lower ones, as that of the document which had none
put_among : (n : ℕ) (detail : Detail) (e : Evidence) (ds : List OutEntry) → IsAscending (λ (x y : OutEntry). x.number < y.number) ds → (d : OutEntry)
    → find (λ (x : OutEntry). x.number == n) ds ≡ Some d → d.evidence ≡ None
    → put_row (evidence_row n e) (evidence_rows ds) ≡ evidence_rows (ended n detail e ds)
put_among n detail e [] up d found none = absurd cc
put_among n detail e (x ∷ ds) up d found none = go (x.number == n) refl found (λ later. put_among n detail e ds up.1 d later none)
  where
    behind : (o : Option Evidence) → x.number < n → put_row (evidence_row n e) (evidence_rows ds) ≡ evidence_rows (ended n detail e ds)
        → put_row (evidence_row n e) (cons_option (option_map (evidence_row x.number) o) (evidence_rows ds)) ≡ cons_option
        (option_map (evidence_row x.number) o) (evidence_rows (ended n detail e ds))
    behind None less rest = rest
    behind (Some r) less rest =
        ap (λ o. match_ordering o (evidence_row x.number r ∷ put_row (evidence_row n e) (evidence_rows ds)) (evidence_row n e ∷ evidence_rows ds)
        (evidence_row n e ∷ evidence_row x.number r ∷ evidence_rows ds)) (rises x.number n less)
        ∙ ap (λ l. evidence_row x.number r ∷ l) rest

    go : (t : Bool) → (x.number == n) ≡ t → cond t (Some x) (find (λ (y : OutEntry). y.number == n) ds) ≡ Some d
        → (find (λ (y : OutEntry). y.number == n) ds ≡ Some d → put_row (evidence_row n e) (evidence_rows ds) ≡ evidence_rows (ended n detail e ds))
        → put_row (evidence_row n e) (evidence_rows (x ∷ ds)) ≡ evidence_rows (cond t (settled_as detail e x) x ∷ ended n detail e ds)
    go true is it later =
        let here : x.number ≡ n = grind (arith, nat_tests) in
        let same : x ≡ d = cc in
        let after = subst (λ k. AllByRecursion (λ (y : OutEntry). k < y.number) ds) here up.0 in
        ap (λ o. put_row (evidence_row n e) (cons_option (option_map (evidence_row x.number) o) (evidence_rows ds)))
        (ap (λ (y : OutEntry). y.evidence) same ∙ none)
        ∙ put_first n e ds after
        ∙ ap₂ (λ k l. evidence_row k e ∷ evidence_rows l) (sym here) (sym (others_stay n detail e ds after))
    go false is it later =
        let more = found_all (λ (y : OutEntry). y.number) (λ k. x.number < k) (λ (y : OutEntry). y.number == n) ds d (from ds up.0) it in
        behind x.evidence (subst (λ k. x.number < k) (found_number n ds d it) more) (later it)
      where
        from : (ys : List OutEntry) → AllByRecursion (λ (y : OutEntry). x.number < y.number) ys
            → AllByRecursion (λ k. x.number < k) (map (λ (y : OutEntry). y.number) ys)
        from [] all = tt
        from (y ∷ ys) all = (all.0, from ys all.1)

-- ---- what waits

rests_idle : (detail : Detail) → is_by_receipt detail ≡ true → out_kind detail Idle ≡ None
rests_idle New is = absurd cc
rests_idle Sending is = absurd cc
rests_idle Awaiting is = absurd cc
rests_idle Retry is = absurd cc
rests_idle Processed is = refl
rests_idle NoReceiptAsked is = absurd cc
rests_idle Warning is = refl
rests_idle NoMic is = refl
rests_idle UnknownMic is = refl
rests_idle NotProcessed is = refl
rests_idle ErrorModifier is = refl
rests_idle MicDiffers is = refl
rests_idle TriesUsed is = absurd cc
rests_idle Overdue is = absurd cc

pub waits_left : {layout : Layout} (t : Database) (s : State) (n : ℕ) (detail : Detail) (e : Evidence) → is_by_receipt detail ≡ true → Stands layout t s
    → Split out_number n s.outbox
    → map waiting_row (without_document n (all_waiting s)) ≡ map waiting_row (all_waiting (change_document s n (settled_as detail e)))
waits_left t s n detail e by stood it =
    ap (λ o. noted_rows (option_map (λ kind. record { kind = kind; number = it.one.number; due = None }) o)
    (map waiting_row (without_document n (all_waiting s)))) (sym (rests_idle detail by))
    ∙ waits_changed (settled_as detail e) (λ _. refl) n t s stood it

-- ---- the state

-- a document that is found has a number that was given
pub given : {layout : Layout} (a : Connected) (s : State) (n : ℕ) (d : OutEntry) → Stands layout a.now s → document s n ≡ Some d → n < end_of_numbers
given a s n d it found =
    let below = found_all (λ (x : OutEntry). x.number) (λ k. k < s.next_out) (λ (x : OutEntry). x.number == n) s.outbox d it.documents.1.below found in
    omega (arith, below, found_number n s.outbox d found, it.documents.0.most)

-- what waits is untouched by the first two statements
pub still_holds : (way : Way) (a b c : Connected) (s : State) → Stands (VersionThree way) a.now s → (documents receipts : List Row)
    → ChangesTable a b (store_schema way) outbox_tree documents → ChangesTable b c (store_schema way) evidence_tree receipts
    → HoldsWaiting way c.now (all_waiting s)
still_holds way a b c s it documents receipts one two = record {
  schema = two.schema_is;
  rows = two.others.1.1.1.1.1.1.0 (λ e. omega arith) ∙ one.others.1.1.1.1.1.1.0 (λ e. omega arith) ∙ it.entries.waits;
  in_order = places_in_order a.now s it;
}

no_evidence_yet : (o : Option Evidence) → is_some o ≡ false → o ≡ None
no_evidence_yet None is = refl
no_evidence_yet (Some e) is = absurd cc

-- the tables stand for the state with the document settled, where no receipt had settled it
pub stands_settled : (way : Way) (a b c d : Connected) (s : State) (n : ℕ) (detail : Detail) (e : Evidence) (x : OutEntry) → is_by_receipt detail ≡ true
    → Stands (VersionThree way) a.now s → document s n ≡ Some x → is_settled x ≡ false → Split out_number n s.outbox
    → ChangesTable a b (store_schema way) outbox_tree (map out_row (change_document s n (settled_as detail e)).outbox)
    → ChangesTable b c (store_schema way) evidence_tree (put_row (evidence_row n e) (b.now.trees evidence_tree))
    → RenewsWaiting way c d (map waiting_row (without_document n (all_waiting s))) → Stands (VersionThree way) d.now (change_document s n (settled_as detail e))
unfolding IsWhole
stands_settled way a b c d s n detail e x by it found fresh_unsettled place one two three =
    let has = it.entries in
    let k1 = keeping way AtOutbox a.now.trees b.now.trees one.others in
    let k2 = keeping way AtEvidence b.now.trees c.now.trees two.others in
    let k3 = keeping way AtWaiting c.now.trees d.now.trees three.others in
    let rising = numbers_rise (λ (y : OutEntry). y.number) s.next_out s.outbox it.documents.1 in
    record {
      sound = three.sound;
      schema = three.schema_is;
      meta = k3 AtMeta (λ e. omega arith) ∙ k2 AtMeta (λ e. omega arith) ∙ k1 AtMeta (λ e. omega arith) ∙ it.meta;
      entries = record {
        inbox = k3 AtInbox (λ e. omega arith) ∙ k2 AtInbox (λ e. omega arith) ∙ k1 AtInbox (λ e. omega arith) ∙ has.inbox;
        inbox_contents = unchanged
            (k3 AtInboxPiece (λ e. omega arith) ∙ k2 AtInboxPiece (λ e. omega arith) ∙ k1 AtInboxPiece (λ e. omega arith)) has.inbox_contents;
        outbox = k3 AtOutbox (λ e. omega arith) ∙ k2 AtOutbox (λ e. omega arith) ∙ one.rows_are;
        outbox_contents = subst (λ ps. HasRows (d.now.trees outbox_piece_tree) (map piece_shown ps))
            (sym (same_pieces (settled_as detail e) (λ _. refl) n (λ _. refl) s.outbox))
            (unchanged (k3 AtOutboxPiece (λ e. omega arith) ∙ k2 AtOutboxPiece (λ e. omega arith) ∙ k1 AtOutboxPiece (λ e. omega arith)) has.outbox_contents);
        evidence = k3 AtEvidence (λ e. omega arith) ∙ two.rows_are ∙ ap (put_row (evidence_row n e)) (k1 AtEvidence (λ e. omega arith) ∙ has.evidence)
            ∙ put_among n detail e s.outbox rising x found (no_evidence_yet x.evidence fresh_unsettled);
        waits = three.rows_are ∙ waits_left a.now s n detail e by it place;
      };
      version = still_origin (k3 AtOrigin (λ e. omega arith) ∙ k2 AtOrigin (λ e. omega arith) ∙ k1 AtOrigin (λ e. omega arith)) it.version;
      begun = still_resent (k3 AtResent (λ e. omega arith) ∙ k2 AtResent (λ e. omega arith) ∙ k1 AtResent (λ e. omega arith))
          (resent_changed (settled_as detail e) (λ _. refl) (λ _. refl) (λ _. refl) n _ s.outbox it.begun);
      left = still_emptied way AtWaiting c.now d.now three.others
          (still_emptied way AtEvidence b.now c.now two.others (still_emptied way AtOutbox a.now b.now one.others it.left));
      receipts = it.receipts;
      documents = (it.documents.0, subst (AreNumbers s.next_out) (sym (same_numbers (settled_as detail e) (λ _. refl) n s.outbox)) it.documents.1);
    }

-- ---- the transaction

settled_next : (s : State) (n : ℕ) (detail : Detail) (e : Evidence) (d : OutEntry) → document s n ≡ Some d → is_settled d ≡ false
    → is_by_receipt detail ≡ true → settled_in n detail e s ≡ Some (change_document s n (settled_as detail e))
settled_next s n detail e d found not_yet by = rw (found, not_yet, by) refl

-- an Ok of the three statements: there is such a document, and no receipt has settled it
pub ends : (begun one two last : Connected) (n w : ℕ) (detail : Detail) (e : Evidence) → is_by_receipt detail ≡ true
    → (end_of_numbers ≤ n → w ≡ end_of_numbers) → (n < end_of_numbers → w ≡ n)
    → (count : ℕ) → count ≢ 0 → (HasCleanDisk two → HasCleanDisk one) → (HasCleanDisk last → HasCleanDisk two)
    → (HasCleanDisk one → IsTrue begun.is_open)
    → (HasCleanDisk one → (way : Way) (s : State) → Stands (VersionThree way) begun.now s → (e : Evidence)
    → ChangesTable begun one (store_schema way) outbox_tree
    (map out_row (change_document s w (settled_as detail e)).outbox) × (count ≡ length (filter (λ (d : OutEntry). d.number == w) s.outbox)))
    → (HasCleanDisk two → (way : Way) → one.now.schema ≡ store_schema way
    → ChangesTable one two (store_schema way) evidence_tree (put_row (evidence_row w e) (one.now.trees evidence_tree))
    × (are_fresh (one.now.trees evidence_tree) (evidence_row w e ∷ []) ≡ true))
    → (HasCleanDisk last → (way : Way) (ws : List WaitingRow) → HoldsWaiting way two.now ws
    → RenewsWaiting way two last (map waiting_row (without_document w ws)))
    → HasCleanDisk last → Follows begun last (settled_in n detail e)
ends begun one two last n w detail e by beyond within count some was_one was_two opened set put taken clean =
    let late = was_one (was_two clean) in
    record {
      was_open = opened late;
      reaches = λ s here.
          let way = here.way in
          let stood = here.stands in
          let first = set late way s stood e in
          let found = some_found (λ (d : OutEntry). d.number == w) s.outbox (λ none. some (first.1 ∙ none)) in
          let low = given begun s w found.0 stood found.1 in
          let it : w ≡ n = same_number low in
          let next = put (was_two clean) way first.0.schema_is in
          let third = taken clean way (all_waiting s) (still_holds way begun one two s stood _ _ first.0 next.0) in
          let rows : one.now.trees evidence_tree ≡ evidence_rows s.outbox = first.0.others.1.1.1.1.1.0 (λ e. omega arith) ∙ stood.entries.evidence in
          let not_yet = fresh_unsettled w e s.outbox found.0 found.1 (ap (λ l. are_fresh l (evidence_row w e ∷ [])) (sym rows) ∙ next.1) in
          let place = split out_number w s.outbox (numbers_rise out_number s.next_out s.outbox stood.documents.1) (λ none. some (first.1 ∙ none)) in
          let stands : Holds last.now (change_document s w (settled_as detail e)) =
          record { way = way; stands = stands_settled way begun one two last s w detail e found.0 by stood found.1 not_yet place first.0 next.0 third } in
          subst (λ k. (t : State) × (settled_in k detail e s ≡ Some t) × Holds last.now t) it
          (change_document s w (settled_as detail e), settled_next s w detail e found.0 found.1 not_yet by, stands);
    }
  where
    same_number : w < end_of_numbers → w ≡ n
    same_number low = elim (cases_Bool (nat_lt n end_of_numbers)) [
      | inl small ↦ within (grind (arith, nat_tests, small))
      | inr large ↦ absurd (let end : w ≡ end_of_numbers = beyond (grind (arith, nat_tests, large)) in omega (arith, low, end))
    ]
