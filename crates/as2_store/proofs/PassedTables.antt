-- What the tables stand for once documents whose wait is over have passed into another detail.
use Rattle.std.proofs.Common.{◌≡◌, ◌≢◌, ℕ, zero, suc, ◌<◌, ◌≤◌, ◌==◌, ◌&&◌, not, List, [], ◌∷◌, map, filter, length, take, get_or, count_by, Bool, true, false, cond, Result, Ok, Err, IfOk, OnOk, Some, IsTrue, pos, negsuc, refl, sym, ap, subst, ◌∙◌, arith}
use Rattle.std.specs.List.{AllByRecursion}
use Rattle.std.proofs.lemmas.List.{get_or-map, length-map, take_all}
use Rattle.std.proofs.lemmas.List.Elements.{filter_agree}
use Rattle.std.proofs.lemmas.List.Sums.{length-filter}
use Rattle.sqlite.specs.declared.types.Value.TheVariants.{Int}
use Rattle.sqlite.specs.Order.{Row, column}
use Rattle.sqlite.specs.Command.TheVariants.{Select}
use Rattle.sqlite.specs.Effect.{Database}
use Rattle.sqlite.specs.Store.{Ghosts}
use Rattle.sqlite.specs.Held.{Held, state}
use Rattle.sqlite.specs.State.{State as Connected, HasCleanDisk, Executes, Shown}
use Rattle.sqlite.specs.Term.{lit}
use Rattle.sqlite.specs.Table.{Table}
use Rattle.sqlite.specs.Tree.{Trees, IsAscending}
use Rattle.sqlite.specs.Listing.{understood}
use Rattle.sqlite.proofs.Callers.{IsPlain, reads_as}
use Rattle.sqlite_trees.proofs.ListLemmas.{ascending-map, ascending_weaker, map-map}
use Rattle.sql_tables.specs.Changes.{ChangesTable, HasRows, over_table, passes}
use Rattle.sql_tables.proofs.Changing.{updates}
use Rattle.sql_tables.proofs.Deleting.{deletes}
use Rattle.sql_tables.proofs.Inside.{shown_same}
use Rattle.sql_tables.proofs.Queries.{by_number, shows_entries}
use Rattle.sql_tables.proofs.Sorting.{unchanged}
use Rattle.sql_tables.proofs.Writes.{cast_int, cast_null}
use Rattle.as2_mdn.specs.declared.detail.Detail.{Detail}
use Rattle.as2_mdn.specs.declared.detail.Detail.TheVariants.{Overdue, TriesUsed}
use Rattle.as2_exchange.specs.Documents.{passed_document, tick}
use Rattle.as2_exchange.specs.Invariants.{AreNumbers}
use Rattle.as2_exchange.specs.State.{State, end_of_numbers}
use Rattle.as2_exchange.specs.Tries.{is_due}
use Rattle.as2_exchange.specs.declared.outbox.OutEntry.{OutEntry}
use Rattle.as2_rows.specs.Codes.{detail_code}
use Rattle.as2_rows.specs.Contents.{piece_shown}
use Rattle.as2_rows.specs.Rows.{out_row}
use Rattle.as2_rows.specs.Waiting.{WaitingRow, to_hear, to_end}
use Rattle.as2_store.specs.Tables.{Way, Layout, VersionThree, store_schema, outbox_table, outbox_tree, outbox_piece_tree, waiting_table, waiting_tree}
use Rattle.as2_store.specs.Stands.{IsWhole, Stands, place, waiting_row, all_waiting}
use Rattle.as2_store.specs.Due.{due_numbers, due_waiting, number_row}
use Rattle.as2_store.specs.Expiring.{HoldsDocuments, PassesInto, RewritesDocuments, over, passed_documents, passing_in, passing_one, without_due}
use Rattle.as2_records.specs.Expiring.{ticked_in}
use Rattle.as2_store.specs.Requeuing.{HoldsWaiting}
use Rattle.as2_store.proofs.Statements.{all_due_text, out_pass_text, waiting_take_due_text}
use Rattle.as2_store.proofs.Texts.{number_terms, pass_project, out_pass_is, out_pass_plain, due_columns, any_due_terms, all_due_is, all_due_plain, all_due_unlisted, waiting_take_due_is, waiting_take_due_plain}
use Rattle.as2_store.proofs.AddedPieces.{others_then}
use Rattle.as2_store.proofs.ChangedDocuments.{changed_rows}
use Rattle.as2_store.proofs.Marking.{Follows}
use Rattle.as2_store.proofs.DueRows.{any_params, any_passes, numbers_small}
use Rattle.as2_store.proofs.ForeignKeys.{quiet}
use Rattle.as2_store.proofs.NumberedRows.{numbers_rise, ordered_rise}
use Rattle.as2_store.proofs.OwedTables.{places_in_order}
use Rattle.as2_store.proofs.Untouched.{AtMeta, AtInbox, AtInboxPiece, AtOutbox, AtOutboxPiece, AtEvidence, AtWaiting, AtOrigin, AtResent, keeping, still_emptied, still_origin, still_resent}
use Rattle.as2_store.proofs.ResentRows.{resent_map}
use Rattle.as2_store.proofs.PassedDocuments.{all_ticked, by_number as moved_by_number, due_are_over, moved, none_passed, same_evidence, same_numbers, same_pieces, waits_left}

-- ---- the numbers that are due

pub shows_due : {way : Way} (kind m : ℕ) (old new : Connected) (rows : List Row) → Shown all_due_text (any_params kind m) old new rows → (s : State)
    → Stands (VersionThree way) old.now s → rows ≡ map number_row (due_numbers kind m s)
shows_due {way} kind m old new rows h s it =
    let read = reads_as all_due_text (any_params kind m) old new (store_schema way) it.schema
    (Select (record { lets = []; body = over_table waiting_tree any_due_terms due_columns by_number (lit (Int (negsuc 0))) }) _) (all_due_is way)
    (all_due_plain way) (all_due_unlisted way) rows h in
    shows_entries waiting_tree any_due_terms due_columns (lit (Int (negsuc 0))) old.now.trees (any_params kind m) rows waiting_row
    (λ w. w.kind == kind && is_due m w.due) (λ w. number_row w.number) (any_passes kind m) (λ _. refl) (all_waiting s) it.entries.waits
    (places_in_order old.now s it) read.answer
    ∙ sym (map-map number_row (λ w. w.number) (due_waiting kind m s))

pub reads_due : {way : Way} (kind m : ℕ) (old new : Connected) (rows : List Row) → Shown all_due_text (any_params kind m) old new rows → (s : State)
    → Stands (VersionThree way) old.now s → (new.now ≡ old.now) × (rows ≡ map number_row (due_numbers kind m s))
reads_due {way} kind m old new rows h s it = (
  (shown_same all_due_text (any_params kind m) old new rows
      (subst (λ k. IsPlain (understood k all_due_text)) (sym it.schema) (all_due_plain way)) h).0.now_is,
  shows_due kind m old new rows h s it,
)

pub ok_then : {V E Q : Type 0} {P : V → Type 0} (r : Result V E) → IfOk r P → ((v : V) → P v → Q) → OnOk r Q
ok_then (Ok v) is then = then v is
ok_then (Err e) is then = tt

small_filtered : (p : WaitingRow → Bool) (ws : List WaitingRow) → AllByRecursion (λ w. w.number < end_of_numbers) ws
    → AllByRecursion (λ n. n < end_of_numbers) (map (λ w. w.number) (filter p ws))
small_filtered p [] all = tt
small_filtered p (w ∷ ws) all = go (p w) (small_filtered p ws all.1)
  where
    go : (t : Bool) → AllByRecursion (λ n. n < end_of_numbers) (map (λ w. w.number) (filter p ws))
        → AllByRecursion (λ n. n < end_of_numbers) (map (λ w. w.number) (cond t (w ∷ filter p ws) (filter p ws)))
    go true rest = (all.0, rest)
    go false rest = rest

pub due_small : {layout : Layout} (kind m : ℕ) (t : Connected) (s : State) → Stands layout t.now s
    → AllByRecursion (λ n. n < end_of_numbers) (due_numbers kind m s)
due_small kind m t s it = small_filtered (λ w. w.kind == kind && is_due m w.due) (all_waiting s) (numbers_small t s it)

pub asked_number : (ns : List ℕ) (i number wanted : ℕ) → AllByRecursion (λ n. n < end_of_numbers) ns → i < length ns → number ≡ get_or ns i 0
    → (number < end_of_numbers → wanted ≡ number) → wanted ≡ get_or ns i 0
asked_number ns i number wanted small within is same = same (subst (λ k. k < end_of_numbers) (sym is) (at ns i small within)) ∙ is
  where
    at : (ns : List ℕ) (i : ℕ) → AllByRecursion (λ n. n < end_of_numbers) ns → i < length ns → get_or ns i 0 < end_of_numbers
    at [] i small within = absurd (omega (arith, within))
    at (n ∷ ns) zero small within = small.0
    at (n ∷ ns) (suc i) small within = at ns i small.1 (omega (arith, within))

-- ---- one document

abbrev pub pass_params : ℕ → Detail → Row
pass_params n detail = Int (pos n) ∷ Int (pos (detail_code detail)) ∷ []

pub passes_one : {way : Way} (n count : ℕ) (detail : Detail) (old new : Connected) (ds : List OutEntry) → HoldsDocuments way old.now ds
    → Executes out_pass_text (pass_params n detail) old new (Ok count)
    → ChangesTable old new (store_schema way) outbox_tree (map out_row (passing_one detail n ds))
passes_one {way} n count detail old new ds it h =
    let done = updates out_pass_text (pass_params n detail) old new (store_schema way) it.schema 3 outbox_table refl number_terms pass_project
    (λ (d : OutEntry). pos d.number) out_row (λ _. refl) (λ (d : OutEntry). out_row (passed_document d (Some detail))) (λ _. refl)
    (λ d. simp (cast_int, cast_null)) ds it.rows (ordered_rise out_row (λ (d : OutEntry). d.number) (λ _. refl) ds it.in_order)
    (quiet way outbox_tree) (out_pass_is way) (out_pass_plain way) count h in
    subst (ChangesTable old new (store_schema way) outbox_tree)
    (changed_rows (λ (d : OutEntry). passed_document d (Some detail)) n (Int (pos (detail_code detail)) ∷ []) ds) done.0

-- the number that the row at place i shows
pub number_here : (rows : List Row) (ns : List ℕ) (i : ℕ) (d : Row) (number : ℕ) → rows ≡ map number_row ns → i < length rows
    → column (get_or rows i d) 0 ≡ Int (pos number) → number ≡ get_or ns i 0
number_here rows ns i d number all within is =
    let some : i < length ns = omega (arith, within, ap length all, length-map ns number_row) in
    let shown : Int (pos (get_or ns i 0)) ≡ Int (pos number) =
    sym (ap (λ r. column r 0) (ap (λ l. get_or l i d) all ∙ get_or-map number_row ns i 0 d some)) ∙ is in
    cc

-- ---- one after another

rise_still : (detail : Detail) (n : ℕ) (ds : List OutEntry) → IsAscending (λ (x y : OutEntry). x.number < y.number) ds
    → IsAscending (λ (x y : OutEntry). x.number < y.number) (passing_one detail n ds)
rise_still detail n ds up =
    ascending-map (λ (x y : OutEntry). x.number < y.number) (λ (d : OutEntry). cond (d.number == n) (passed_document d (Some detail)) d) ds
    (ascending_weaker (λ (x y : OutEntry). x.number < y.number) _ (λ x y less. omega (arith, less, kept x (x.number == n), kept y (y.number == n))) ds up)
  where
    kept : (d : OutEntry) (t : Bool) → (cond t (passed_document d (Some detail)) d).number ≡ d.number
    kept d true = refl
    kept d false = refl

none_changed : (trees : Trees) (tree : ℕ) (tables : List Table) → AllByRecursion (λ t. t.tree ≢ tree → trees t.tree ≡ trees t.tree) tables
none_changed trees tree [] = tt
none_changed trees tree (t ∷ tables) = (λ _. refl, none_changed trees tree tables)

pub none_rewritten : (way : Way) (old : Connected) (ds : List OutEntry) → HoldsDocuments way old.now ds → RewritesDocuments way old old ds
none_rewritten way old ds it = record { holds = it; others = none_changed old.now.trees outbox_tree (store_schema way).tables }

pub rewritten_more : (way : Way) (old mid new : Connected) (detail : Detail) (n : ℕ) (ds : List OutEntry) → RewritesDocuments way old mid ds
    → ChangesTable mid new (store_schema way) outbox_tree (map out_row (passing_one detail n ds)) → RewritesDocuments way old new (passing_one detail n ds)
rewritten_more way old mid new detail n ds it one = record {
  holds = record { sound = one.sound; schema = one.schema_is; rows = one.rows_are; in_order = rise_still detail n ds it.holds.in_order };
  others = others_then old.now.trees mid.now.trees new.now.trees outbox_tree (store_schema way).tables it.others one.others;
}

-- ---- what waits

pub takes_due : {way : Way} (kind m count : ℕ) (old new : Connected) (ws : List WaitingRow) → HoldsWaiting way old.now ws
    → Executes waiting_take_due_text (any_params kind m) old new (Ok count)
    → ChangesTable old new (store_schema way) waiting_tree (map waiting_row (without_due kind m ws))
takes_due {way} kind m count old new ws it h =
    let done = deletes waiting_take_due_text (any_params kind m) old new (store_schema way) it.schema 6 waiting_table refl any_due_terms
    (λ (w : WaitingRow). pos (place w)) waiting_row (λ _. refl) ws it.rows it.in_order (quiet way waiting_tree) (waiting_take_due_is way)
    (waiting_take_due_plain way) count h in
    subst (λ l. ChangesTable old new (store_schema way) waiting_tree (map waiting_row l))
    (filter_agree (λ (w : WaitingRow). not (passes any_due_terms (any_params kind m) (waiting_row w)))
    (λ (w : WaitingRow). not (w.kind == kind && is_due m w.due)) (λ w. ap not (any_passes kind m w)) ws) done.0

-- ---- the state

pub documents_of : {way : Way} (d : Database) (s : State) → Stands (VersionThree way) d s → HoldsDocuments way d s.outbox
unfolding IsWhole
documents_of d s it = record {
  sound = it.sound;
  schema = it.schema;
  rows = it.entries.outbox;
  in_order = numbers_rise (λ (x : OutEntry). x.number) s.next_out s.outbox it.documents.1;
}

pub waits_of : {way : Way} (a b : Connected) (s : State) (ds : List OutEntry) → Stands (VersionThree way) a.now s → RewritesDocuments way a b ds
    → HoldsWaiting way b.now (all_waiting s)
waits_of a b s ds it one =
    record { schema = one.holds.schema; rows = one.others.1.1.1.1.1.1.0 (λ e. omega arith) ∙ it.entries.waits; in_order = places_in_order a.now s it }

-- the documents of one kind have passed
pub stands_passed : (way : Way) (kind m : ℕ) (detail : Detail) → PassesInto kind detail → (a b c : Connected) (s : State) → Stands (VersionThree way) a.now s
    → RewritesDocuments way a b (passed_documents detail (due_numbers kind m s) s.outbox)
    → ChangesTable b c (store_schema way) waiting_tree (map waiting_row (without_due kind m (all_waiting s)))
    → Stands (VersionThree way) c.now (passing_in kind detail m s)
unfolding IsWhole
stands_passed way kind m detail into a b c s it one two =
    let has = it.entries in
    let k1 = keeping way AtOutbox a.now.trees b.now.trees one.others in
    let k2 = keeping way AtWaiting b.now.trees c.now.trees two.others in
    let up = numbers_rise (λ (x : OutEntry). x.number) s.next_out s.outbox it.documents.1 in
    let told : passed_documents detail (due_numbers kind m s) s.outbox ≡ moved detail (over kind m) s.outbox =
    ap (λ ns. passed_documents detail ns s.outbox) (due_are_over kind detail into m s) ∙ moved_by_number detail (over kind m) s.outbox up in
    record {
      sound = two.sound;
      schema = two.schema_is;
      meta = k2 AtMeta (λ e. omega arith) ∙ k1 AtMeta (λ e. omega arith) ∙ it.meta;
      entries = record {
        inbox = k2 AtInbox (λ e. omega arith) ∙ k1 AtInbox (λ e. omega arith) ∙ has.inbox;
        inbox_contents = unchanged (k2 AtInboxPiece (λ e. omega arith) ∙ k1 AtInboxPiece (λ e. omega arith)) has.inbox_contents;
        outbox = k2 AtOutbox (λ e. omega arith) ∙ one.holds.rows ∙ ap (map out_row) told;
        outbox_contents = subst (λ ps. HasRows (c.now.trees outbox_piece_tree) (map piece_shown ps)) (sym (same_pieces detail (over kind m) s.outbox))
            (unchanged (k2 AtOutboxPiece (λ e. omega arith) ∙ k1 AtOutboxPiece (λ e. omega arith)) has.outbox_contents);
        evidence = k2 AtEvidence (λ e. omega arith) ∙ k1 AtEvidence (λ e. omega arith) ∙ has.evidence ∙ sym (same_evidence detail (over kind m) s.outbox);
        waits = two.rows_are ∙ ap (map waiting_row) (sym (waits_left kind m detail into s));
      };
      version = still_origin (k2 AtOrigin (λ e. omega arith) ∙ k1 AtOrigin (λ e. omega arith)) it.version;
      begun = still_resent (k2 AtResent (λ e. omega arith) ∙ k1 AtResent (λ e. omega arith))
          (resent_map (λ d. cond (over kind m d) (passed_document d (Some detail)) d) (λ d. same_number d (over kind m d))
          (λ d. same_begun d (over kind m d)) (λ d. same_tries d (over kind m d)) _ s.outbox it.begun);
      left = still_emptied way AtWaiting b.now c.now two.others (still_emptied way AtOutbox a.now b.now one.others it.left);
      receipts = it.receipts;
      documents = (it.documents.0, subst (AreNumbers s.next_out) (sym (same_numbers detail (over kind m) s.outbox)) it.documents.1);
    }
  where
    same_number : (d : OutEntry) (t : Bool) → (cond t (passed_document d (Some detail)) d).number ≡ d.number
    same_number d true = refl
    same_number d false = refl

    same_begun : (d : OutEntry) (t : Bool) → (cond t (passed_document d (Some detail)) d).begun ≡ d.begun
    same_begun d true = refl
    same_begun d false = refl

    same_tries : (d : OutEntry) (t : Bool) → (cond t (passed_document d (Some detail)) d).tries ≡ d.tries
    same_tries d true = refl
    same_tries d false = refl

pub due_count : (kind m : ℕ) (detail : Detail) → PassesInto kind detail → (s : State) → length (due_numbers kind m s) ≡ count_by (over kind m) s.outbox
due_count kind m detail into s = ap length (due_are_over kind detail into m s)
    ∙ length-map (filter (over kind m) s.outbox) (λ (d : OutEntry). d.number) ∙ length-filter (over kind m) s.outbox

-- where nothing is due so, nothing passes
pub none_over : {layout : Layout} (kind m : ℕ) (detail : Detail) → PassesInto kind detail → (a : Connected) (s : State) → Stands layout a.now s
    → due_numbers kind m s ≡ [] → (passing_in kind detail m s ≡ s) × (count_by (over kind m) s.outbox ≡ 0)
none_over kind m detail into a s it none =
    let up = numbers_rise (λ (x : OutEntry). x.number) s.next_out s.outbox it.documents.1 in
    let numbers = sym (due_are_over kind detail into m s) ∙ none in (
      ap (λ ds. record s { outbox = ds })
          (sym (moved_by_number detail (over kind m) s.outbox up) ∙ ap (λ ns. passed_documents detail ns s.outbox) numbers ∙ none_passed detail s.outbox),
      sym (due_count kind m detail into s) ∙ ap length none,
    )

pub all_passed : (detail : Detail) (rows : List Row) (ns : List ℕ) (i : ℕ) (ds : List OutEntry) → rows ≡ map number_row ns → length rows ≤ i
    → passed_documents detail (take i ns) ds ≡ passed_documents detail ns ds
all_passed detail rows ns i ds all past = ap (λ k. passed_documents detail k ds) (take_all i ns (omega (arith, past, ap length all, length-map ns number_row)))

pub no_number : (ns : List ℕ) → map number_row ns ≡ [] → ns ≡ []
no_number [] is = refl
no_number (n ∷ ns) is = absurd cc

pub no_row : (rows : List Row) → length rows ≡ 0 → rows ≡ []
no_row [] is = refl
no_row (r ∷ rows) is = absurd (omega (arith, is))

-- ---- the transaction

module _ (begun one last : Connected) (m first second : ℕ) where
  abbrev Passes : ℕ → Detail → ℕ → Connected → Connected → Type 0
  Passes kind detail count a b = (way : Way) (s : State) → Stands (VersionThree way) a.now s
      → Stands (VersionThree way) b.now (passing_in kind detail m s) × (count ≡ count_by (over kind m) s.outbox)

  pub time_passes : (HasCleanDisk last → HasCleanDisk one) → (HasCleanDisk one → IsTrue begun.is_open)
      → (HasCleanDisk one → Passes to_hear Overdue first begun one) → (HasCleanDisk last → Passes to_end TriesUsed second one last)
      → HasCleanDisk last → Follows begun last (ticked_in m)
  time_passes was opened hear end clean = record {
    was_open = opened (was clean);
    reaches = λ s here.
        let passed = hear (was clean) here.way s here.stands in
        let both = end clean here.way (passing_in to_hear Overdue m s) passed.0 in
        ((tick m s).1, refl, record { way = here.way; stands = subst (Stands (VersionThree here.way) last.now) (all_ticked m s) both.0 });
  }
