-- What the statements over `resent` leave, and what the queries for its rows answer.
use Rattle.std.proofs.Common.{◌≡◌, ◌≢◌, ◌∙◌, ℕ, ◌<◌, ◌==◌, ◌&&◌, ◌||◌, not, nat_le, List, [], ◌∷◌, ◌++◌, map, filter, find, length, Some, Ok, IsTrue, Vec, Global, Bool, true, false, true≢false, cond, codes, pos, negsuc, refl, sym, ap, ap₂, subst, arith}
use Rattle.std.specs.List.{AllByRecursion}
use Rattle.std.proofs.lemmas.Bool.Decides.{nat_tests}
use Rattle.std.proofs.lemmas.List.{map-append}
use Rattle.std.proofs.lemmas.List.Elements.{filter_agree, filter-append}
use Rattle.sqlite.specs.declared.types.Value.TheVariants.{Int}
use Rattle.sqlite.specs.Command.TheVariants.{Select}
use Rattle.sqlite.specs.Listing.{understood}
use Rattle.sqlite.specs.Order.{Row}
use Rattle.sqlite.specs.State.{State as Connected, HasCleanDisk, Executes, Shown}
use Rattle.sqlite.specs.Term.{lit}
use Rattle.sqlite.specs.Tree.{put_row}
use Rattle.sqlite.proofs.Callers.{IsPlain, reads_as}
use Rattle.sqlite_trees.proofs.ListLemmas.{all-append, all-map, filter_none, map-map}
use Rattle.sql_tables.specs.Changes.{ChangesTable, over_table, passes}
use Rattle.sql_tables.proofs.Deleting.{deletes}
use Rattle.sql_tables.proofs.Inside.{shown_open, shown_same}
use Rattle.sql_tables.proofs.Queries.{by_number, numbers_at_least, numbers_equal, shows_entries}
use Rattle.sql_tables.proofs.Sorting.{unchanged}
use Rattle.sql_tables.proofs.Writes.{cast_int, cast_null, IsOneRow, inserts_given}
use Rattle.as2_exchange.proofs.Lists.{all_weaken}
use Rattle.as2_exchange.specs.State.{State}
use Rattle.as2_exchange.specs.declared.outbox.OutEntry.{OutEntry}
use Rattle.as2_rows.specs.Rows.{out_row}
use Rattle.as2_store.specs.Rounds.{ReadsBy}
use Rattle.as2_store.specs.Due.{number_row}
use Rattle.as2_store.specs.Resending.{HoldsResent, IsReady, has_row, is_tried, tried_numbers}
use Rattle.as2_store.specs.Stands.{IsWhole, Stands, numbers_of, resent_row, HoldsIfOpen}
use Rattle.as2_store.specs.Tables.{Way, VersionThree, store_schema, outbox_tree, resent_table, resent_tree}
use Rattle.as2_store.proofs.Statements.{resent_put_text, resent_read_text, resent_take_text, tried_text}
use Rattle.as2_store.proofs.Texts.{number_terms, resent_column_terms, resent_place, resent_put_is, resent_put_plain, resent_put_terms, resent_read_is, resent_read_plain, resent_read_unlisted, resent_take_is, resent_take_plain, resent_there, tried_is, tried_plain, tried_terms, tried_unlisted}
use Rattle.as2_store.proofs.ForeignKeys.{quiet}
use Rattle.as2_store.proofs.MetaRow.{one_param}
use Rattle.as2_store.proofs.NumberedEntries.{Split, out_number, split}
use Rattle.as2_store.proofs.NumberedRows.{entries_rise, numbers_rise}
use Rattle.as2_store.proofs.QueriedRows.{and_true, reads_rows}
use Rattle.as2_store.proofs.ReadsBy.{read_ok, reads_standing, unread}
use Rattle.as2_store.proofs.ResentRows.{marked_before, marks, now_marked, or_this, resent_in_order}
use Rattle.as2_store.proofs.Untouched.{AtMeta, AtInbox, AtInboxPiece, AtOutbox, AtOutboxPiece, AtEvidence, AtWaiting, AtOrigin, AtResent, keeping, still_emptied, still_origin}

-- ---- the statements

has_number : (n k : ℕ) → passes number_terms (one_param n) (resent_row k) ≡ (k == n)
has_number n k = ap (λ b. b && true) (numbers_equal k n) ∙ and_true _

pub takes_resent : {way : Way} (n count : ℕ) (old new : Connected) (ns : List ℕ) → HoldsResent way old.now ns
    → Executes resent_take_text (one_param n) old new (Ok count)
    → ChangesTable old new (store_schema way) (resent_tree way) (map resent_row (filter (λ k. not (k == n)) ns))
takes_resent {way} n count old new ns it h =
    let done = deletes resent_take_text (one_param n) old new (store_schema way) it.schema (resent_place way) (resent_table way)
    (resent_there way) number_terms (λ (k : ℕ). pos k) resent_row (λ _. refl) ns it.rows it.in_order (quiet way (resent_tree way))
    (resent_take_is way) (resent_take_plain way) count h in
    subst (λ l. ChangesTable old new (store_schema way) (resent_tree way) (map resent_row l))
    (filter_agree (λ (k : ℕ). not (passes number_terms (one_param n) (resent_row k))) (λ (k : ℕ). not (k == n)) (λ k. ap not (has_number n k)) ns) done.0

one_resent : (way : Way) (n : ℕ) → IsOneRow (resent_table way) (one_param n) resent_put_terms 2 (resent_row n)
one_resent way n = record { source = resent_row n; made = refl; cast_is = simp (cast_int, cast_null) }

pub puts_resent : (way : Way) (old new : Connected) (n count : ℕ) → old.now.schema ≡ store_schema way
    → Executes resent_put_text (one_param n) old new (Ok count)
    → ChangesTable old new (store_schema way) (resent_tree way) (put_row (resent_row n) (old.now.trees (resent_tree way)))
puts_resent way old new n count has h =
    inserts_given resent_put_text (one_param n) old new (store_schema way) has (resent_place way) (resent_table way)
    (resent_there way) refl resent_put_terms 2 (resent_row n) (one_resent way n) refl (resent_put_is way) (resent_put_plain way) count h

-- ---- which documents were tried

pub reads_tried : {way : Way} (n : ℕ) (old new : Connected) (rows : List Row) → Shown tried_text (one_param n) old new rows → (s : State)
    → Stands (VersionThree way) old.now s → (new.now ≡ old.now) × (rows ≡ map number_row (tried_numbers n s))
reads_tried {way} n old new rows h s it =
    let read = reads_as tried_text (one_param n) old new (store_schema way) it.schema
    (Select (record { lets = []; body = over_table outbox_tree tried_terms resent_column_terms by_number (lit (Int (negsuc 0))) }) _)
    (tried_is way) (tried_plain way) (tried_unlisted way) rows h in (
      (shown_same tried_text (one_param n) old new rows (subst (λ k. IsPlain (understood k tried_text)) (sym it.schema) (tried_plain way)) h).0.now_is,
      shows_entries outbox_tree tried_terms resent_column_terms (lit (Int (negsuc 0))) old.now.trees (one_param n) rows out_row (is_tried n)
          (λ d. number_row d.number)
          (λ d. ap₂ ◌&&◌ (numbers_equal d.number n) (ap (λ b. b && true) (numbers_at_least d.tries 1) ∙ and_true _)) (λ _. refl) s.outbox it.entries.outbox
          (entries_rise out_row (λ (d : OutEntry). d.number) (λ _. refl) s.next_out s.outbox it.documents.1) read.answer
          ∙ sym (map-map number_row (λ (d : OutEntry). d.number) (filter (is_tried n) s.outbox)),
    )

untried_all : (n : ℕ) (ds : List OutEntry) → filter (is_tried n) ds ≡ [] → AllByRecursion (λ d. (d.number == n) ≡ true → nat_le 1 d.tries ≡ false) ds
untried_all n [] none = tt
untried_all n (d ∷ ds) none = go (d.number == n) (nat_le 1 d.tries) none (untried_all n ds)
  where
    go : (t u : Bool) → cond (t && u) (d ∷ filter (is_tried n) ds) (filter (is_tried n) ds) ≡ []
        → (filter (is_tried n) ds ≡ [] → AllByRecursion (λ d. (d.number == n) ≡ true → nat_le 1 d.tries ≡ false) ds)
        → (t ≡ true → u ≡ false) × AllByRecursion (λ d. (d.number == n) ≡ true → nat_le 1 d.tries ≡ false) ds
    go true true none later = absurd cc
    go true false none later = (λ _. refl, later none)
    go false u none later = (λ is. absurd (true≢false (sym is)), later none)

other_number : (m n : ℕ) → (m < n) → (m == n) ≡ false
other_number m n less = grind (arith, nat_tests)

greater_number : (m n : ℕ) → (n < m) → (m == n) ≡ false
greater_number m n less = grind (arith, nat_tests)

module _ (n : ℕ) (ds : List OutEntry) (it : Split out_number n ds) where
  low_other : AllByRecursion (λ (d : OutEntry). (d.number == n) ≡ false) it.front
  low_other = all_weaken (λ (d : OutEntry). d.number < n) (λ d. (d.number == n) ≡ false) (λ d less. other_number d.number n less) it.front it.low

  high_other : AllByRecursion (λ (d : OutEntry). (d.number == n) ≡ false) it.back
  high_other = all_weaken (λ (d : OutEntry). n < d.number) (λ d. (d.number == n) ≡ false) (λ d less. greater_number d.number n less) it.back it.high

  none_of : (es : List OutEntry) → AllByRecursion (λ (d : OutEntry). (d.number == n) ≡ false) es → filter (is_tried n) es ≡ []
  none_of es other = filter_none (is_tried n) es
      (all_weaken (λ (d : OutEntry). (d.number == n) ≡ false) (λ d. is_tried n d ≡ false) (λ d is. ap (λ t. t && nat_le 1 d.tries) is) es other)

  -- it is the one that was tried
  one_tried : filter (is_tried n) ds ≢ [] → nat_le 1 it.one.tries ≡ true
  one_tried some = go (it.one.number == n) (nat_le 1 it.one.tries) all
    where
      all : filter (is_tried n) ds ≡ [] ++ cond (is_tried n it.one) (it.one ∷ []) []
      all =
          ap (filter (is_tried n)) it.whole
          ∙ filter-append (is_tried n) it.front (it.one ∷ it.back)
          ∙ ap₂ ◌++◌ (none_of it.front low_other) (ap (λ l. cond (is_tried n it.one) (it.one ∷ l) l) (none_of it.back high_other))

      go : (t u : Bool) → filter (is_tried n) ds ≡ [] ++ cond (t && u) (it.one ∷ []) [] → u ≡ true
      go true true is = refl
      go true false is = absurd (some is)
      go false true is = refl
      go false false is = absurd (some is)

  all_tried : filter (is_tried n) ds ≢ [] → AllByRecursion (λ (d : OutEntry). (d.number == n) ≡ true → nat_le 1 d.tries ≡ true) ds
  all_tried some = subst (AllByRecursion (λ (d : OutEntry). (d.number == n) ≡ true → nat_le 1 d.tries ≡ true)) (sym it.whole)
      (all-append (λ (d : OutEntry). (d.number == n) ≡ true → nat_le 1 d.tries ≡ true) it.front (it.one ∷ it.back) (never it.front low_other)
      (λ _. one_tried some, never it.back high_other))
    where
      never : (es : List OutEntry) → AllByRecursion (λ (d : OutEntry). (d.number == n) ≡ false) es
          → AllByRecursion (λ (d : OutEntry). (d.number == n) ≡ true → nat_le 1 d.tries ≡ true) es
      never [] other = tt
      never (d ∷ es) other = (λ is. absurd (true≢false (sym is ∙ other.0)), never es other.1)

  among_numbers : Split (λ (k : ℕ). k) n (numbers_of ds)
  among_numbers = record {
    front = numbers_of it.front;
    one = it.one.number;
    back = numbers_of it.back;
    whole = ap numbers_of it.whole ∙ map-append (λ (d : OutEntry). d.number) it.front (it.one ∷ it.back);
    here = it.here;
    low = all-map (λ k. k < n) (λ (d : OutEntry). d.number) it.front it.low;
    high = all-map (λ k. n < k) (λ (d : OutEntry). d.number) it.back it.high;
  }

-- one that was tried has the number
some_tried : (n : ℕ) (ds : List OutEntry) → filter (is_tried n) ds ≢ [] → length (filter (λ (d : OutEntry). d.number == n) ds) ≢ 0
some_tried n [] some = absurd (some refl)
some_tried n (d ∷ ds) some = go (d.number == n) (nat_le 1 d.tries) some (some_tried n ds)
  where
    go : (t u : Bool) → cond (t && u) (d ∷ filter (is_tried n) ds) (filter (is_tried n) ds) ≢ []
        → (filter (is_tried n) ds ≢ [] → length (filter (λ (x : OutEntry). x.number == n) ds) ≢ 0)
        → length (cond t (d ∷ filter (λ (x : OutEntry). x.number == n) ds) (filter (λ (x : OutEntry). x.number == n) ds)) ≢ 0
    go true u some later = λ none. omega (arith, none)
    go false u some later = later some

-- ---- the state

pub holds_resent : {way : Way} (a b : Connected) (s : State) → (it : Stands (VersionThree way) a.now s) → b.now ≡ a.now
    → HoldsResent way b.now (filter it.begun.was (numbers_of s.outbox))
holds_resent {way} a b s it same = record {
  schema = ap (λ d. d.schema) same ∙ it.schema;
  rows = ap (λ d. d.trees (resent_tree way)) same ∙ it.begun.rows_are;
  in_order = resent_in_order it.begun.was s.next_out (numbers_of s.outbox) it.documents.1;
}

-- none was tried: the tables are as they were
pub ready_untried : (way : Way) (a b : Connected) (s : State) (n : ℕ) → Stands (VersionThree way) a.now s → b.now ≡ a.now → tried_numbers n s ≡ []
    → IsReady way b.now s n 0
ready_untried way a b s n it same none =
    let stood : Stands (VersionThree way) b.now s = subst (λ d. Stands (VersionThree way) d s) (sym same) it in
    record {
      stands = stood;
      marked = λ _. marked_before (b.now.trees (resent_tree way)) n s.outbox
          (untried_all n s.outbox (unmapped (filter (is_tried n) s.outbox) none)) stood.begun;
    }
  where
    unmapped : (ds : List OutEntry) → numbers_of ds ≡ [] → ds ≡ []
    unmapped [] is = refl
    unmapped (d ∷ ds) is = absurd cc

-- one was tried: it has a row now
pub ready_tried : (way : Way) (a b c d : Connected) (s : State) (n : ℕ) → (it : Stands (VersionThree way) a.now s) → b.now ≡ a.now → tried_numbers n s ≢ []
    → ChangesTable b c (store_schema way) (resent_tree way) (map resent_row (filter (λ k. not (k == n)) (filter it.begun.was (numbers_of s.outbox))))
    → ChangesTable c d (store_schema way) (resent_tree way) (put_row (resent_row n) (c.now.trees (resent_tree way))) → IsReady way d.now s n 0
unfolding IsWhole
ready_tried way a b c d s n it same some one two =
    let k1 = keeping way AtResent b.now.trees c.now.trees one.others in
    let k2 = keeping way AtResent c.now.trees d.now.trees two.others in
    let stood : Stands (VersionThree way) b.now s = subst (λ d. Stands (VersionThree way) d s) (sym same) it in
    let has = stood.entries in
    let found : filter (is_tried n) s.outbox ≢ [] = λ none. some (ap numbers_of none) in
    let place = split out_number n s.outbox (numbers_rise out_number s.next_out s.outbox it.documents.1) (some_tried n s.outbox found) in
    let rows : d.now.trees (resent_tree way) ≡ map resent_row (filter (or_this it.begun.was n) (numbers_of s.outbox)) =
    two.rows_are ∙ ap (put_row (resent_row n)) one.rows_are ∙ marks it.begun.was n (numbers_of s.outbox) (among_numbers n s.outbox place) in
    let own = now_marked (a.now.trees (resent_tree way)) n s.outbox (all_tried n s.outbox place found) it.begun (d.now.trees (resent_tree way)) rows in
    record {
      stands = record {
        sound = two.sound;
        schema = two.schema_is;
        meta = k2 AtMeta (λ e. omega arith) ∙ k1 AtMeta (λ e. omega arith) ∙ stood.meta;
        entries = record {
          inbox = k2 AtInbox (λ e. omega arith) ∙ k1 AtInbox (λ e. omega arith) ∙ has.inbox;
          inbox_contents = unchanged (k2 AtInboxPiece (λ e. omega arith) ∙ k1 AtInboxPiece (λ e. omega arith)) has.inbox_contents;
          outbox = k2 AtOutbox (λ e. omega arith) ∙ k1 AtOutbox (λ e. omega arith) ∙ has.outbox;
          outbox_contents = unchanged (k2 AtOutboxPiece (λ e. omega arith) ∙ k1 AtOutboxPiece (λ e. omega arith)) has.outbox_contents;
          evidence = k2 AtEvidence (λ e. omega arith) ∙ k1 AtEvidence (λ e. omega arith) ∙ has.evidence;
          waits = k2 AtWaiting (λ e. omega arith) ∙ k1 AtWaiting (λ e. omega arith) ∙ has.waits;
        };
        version = still_origin (k2 AtOrigin (λ e. omega arith) ∙ k1 AtOrigin (λ e. omega arith)) stood.version;
        begun = own.resent;
        left = still_emptied way AtResent c.now d.now two.others (still_emptied way AtResent b.now c.now one.others stood.left);
        receipts = stood.receipts;
        documents = stood.documents;
      };
      marked = λ _. own;
    }

-- ---- whether a document has a row

none_kept : (was : ℕ → Bool) (n : ℕ) (ns : List ℕ) → was n ≡ false → filter (λ k. k == n) (filter was ns) ≡ []
none_kept was n [] is = refl
none_kept was n (k ∷ ns) is = go (was k) refl (none_kept was n ns is)
  where
    same : (k n : ℕ) → (k == n) ≡ true → k ≡ n
    same k n is = grind (arith, nat_tests, is)

    by : (t : Bool) → (k == n) ≡ t → was k ≡ true → filter (λ k. k == n) (filter was ns) ≡ []
        → cond t (k ∷ filter (λ k. k == n) (filter was ns)) (filter (λ k. k == n) (filter was ns)) ≡ []
    by true here kept rest = absurd (true≢false (sym kept ∙ ap was (same k n here) ∙ is))
    by false here kept rest = rest

    go : (t : Bool) → was k ≡ t → filter (λ k. k == n) (filter was ns) ≡ [] → filter (λ k. k == n) (cond t (k ∷ filter was ns) (filter was ns)) ≡ []
    go true kept rest = by (k == n) refl kept rest
    go false kept rest = rest

-- a row shows this number
abbrev is_shown : ℕ → List ℕ → Bool
is_shown n ks = has_row (map number_row (filter (λ k. k == n) ks))

shown_first : (n k : ℕ) (ks : List ℕ) → (k == n) ≡ true → is_shown n (k ∷ ks) ≡ true
shown_first n k ks is = ap (λ t. has_row (map number_row (cond t (k ∷ filter (λ k. k == n) ks) (filter (λ k. k == n) ks)))) is

shown_later : (n k : ℕ) (ks : List ℕ) → is_shown n ks ≡ true → is_shown n (k ∷ ks) ≡ true
shown_later n k ks later = go (k == n) later
  where
    go : (t : Bool) → is_shown n ks ≡ true → has_row (map number_row (cond t (k ∷ filter (λ k. k == n) ks) (filter (λ k. k == n) ks))) ≡ true
    go true later = refl
    go false later = later

one_kept : (was : ℕ → Bool) (p : OutEntry → Bool) (ds : List OutEntry) (d : OutEntry) → find p ds ≡ Some d → was d.number ≡ true
    → is_shown d.number (filter was (numbers_of ds)) ≡ true
one_kept was p [] d found is = absurd cc
one_kept was p (x ∷ ds) d found is = go (p x) found (λ later. one_kept was p ds d later is)
  where
    itself : (n : ℕ) → (n == n) ≡ true
    itself n = grind (arith, nat_tests)

    behind : (t : Bool) → is_shown d.number (filter was (numbers_of ds)) ≡ true
        → is_shown d.number (cond t (x.number ∷ filter was (numbers_of ds)) (filter was (numbers_of ds))) ≡ true
    behind true later = shown_later d.number x.number (filter was (numbers_of ds)) later
    behind false later = later

    go : (t : Bool) → cond t (Some x) (find p ds) ≡ Some d → (find p ds ≡ Some d → is_shown d.number (filter was (numbers_of ds)) ≡ true)
        → is_shown d.number (filter was (numbers_of (x ∷ ds))) ≡ true
    go true found later =
        let same : x ≡ d = cc in
        let number : x.number ≡ d.number = ap (λ (y : OutEntry). y.number) same in
        ap (λ t. is_shown d.number (cond t (x.number ∷ filter was (numbers_of ds)) (filter was (numbers_of ds)))) (ap was number ∙ is)
        ∙ shown_first d.number x.number (filter was (numbers_of ds)) (ap (λ k. k == d.number) number ∙ itself d.number)
    go false found later = behind (was x.number) (later found)

row_tells : (was : ℕ → Bool) (p : OutEntry → Bool) (ds : List OutEntry) (d : OutEntry) → find p ds ≡ Some d
    → is_shown d.number (filter was (numbers_of ds)) ≡ was d.number
row_tells was p ds d found = go (was d.number) refl
  where
    go : (t : Bool) → was d.number ≡ t → is_shown d.number (filter was (numbers_of ds)) ≡ was d.number
    go true is = one_kept was p ds d found is ∙ sym is
    go false is = ap (λ ks. has_row (map number_row ks)) (none_kept was d.number (numbers_of ds) is) ∙ sym is

found_begun : (was : ℕ → Bool) (p : OutEntry → Bool) (ds : List OutEntry) (d : OutEntry)
    → AllByRecursion (λ d. d.begun ≡ (nat_le 1 d.tries || was d.number)) ds → find p ds ≡ Some d → d.begun ≡ (nat_le 1 d.tries || was d.number)
found_begun was p [] d all found = absurd cc
found_begun was p (x ∷ ds) d all found = go (p x) found (λ later. found_begun was p ds d all.1 later)
  where
    go : (t : Bool) → cond t (Some x) (find p ds) ≡ Some d → (find p ds ≡ Some d → d.begun ≡ (nat_le 1 d.tries || was d.number))
        → d.begun ≡ (nat_le 1 d.tries || was d.number)
    go true is later = let same : x ≡ d = cc in subst (λ (y : OutEntry). y.begun ≡ (nat_le 1 y.tries || was y.number)) same all.0
    go false is later = later is

pub finds_resent : (n : ℕ) (old new : Connected) (rows : List Row) → Shown resent_read_text (one_param n) old new rows → (s : State) → HoldsIfOpen old s
    → (p : OutEntry → Bool) (d : OutEntry) → find p s.outbox ≡ Some d → n ≡ d.number
    → d.begun ≡ (nat_le 1 d.tries || has_row rows)
finds_resent n old new rows h s r p d found same =
    let here = r (shown_open resent_read_text (one_param n) old new rows h) in
    let way = here.way in
    let it = here.stands in
    let kept = filter it.begun.was (numbers_of s.outbox) in
    let all : rows ≡ map number_row (filter (λ k. k == n) kept) =
    reads_rows way resent_read_text (resent_read_plain way) (resent_read_unlisted way) (resent_tree way) number_terms resent_column_terms
    (codes "number" ∷ []) (resent_read_is way) (one_param n) resent_row number_row (λ _. refl) (λ k. k == n) (has_number n) old new rows h it.schema
    kept it.begun.rows_are (resent_in_order it.begun.was s.next_out (numbers_of s.outbox) it.documents.1) in
    found_begun it.begun.was p s.outbox d it.begun.begun found
    ∙ ap (λ t. nat_le 1 d.tries || t)
    (sym (ap has_row all ∙ ap (λ m. has_row (map number_row (filter (λ k. k == m) kept))) same ∙ row_tells it.begun.was p s.outbox d found))

-- one that was tried is begun
pub tried_is_begun : {way : Way} (c : Connected) (s : State) → Stands (VersionThree way) c.now s → (p : OutEntry → Bool) (d : OutEntry)
    → find p s.outbox ≡ Some d → nat_le 1 d.tries ≡ true → true ≡ d.begun
tried_is_begun c s it p d found is = sym (found_begun it.begun.was p s.outbox d it.begun.begun found ∙ ap (λ t. t || it.begun.was d.number) is)

-- ---- what is told of a document

module _ (number tries : ℕ) where
  abbrev tells : State → Bool → Type 0
  tells s b = (p : OutEntry → Bool) (d : OutEntry) → find p s.outbox ≡ Some d → number ≡ d.number → tries ≡ d.tries → b ≡ d.begun

  -- its tries tell
  pub tells_by_tries : {E : Type 0} (old : Connected) → (HasCleanDisk old → IsTrue old.is_open) → nat_le 1 tries ≡ true
      → ReadsBy {E = E} tells old old (Ok true)
  tells_by_tries old opened some =
      reads_standing (λ s b. b ≡ true) tells old old (Ok true)
      (λ s b here is p d found one two. is ∙ tried_is_begun old s here.stands p d found (subst (λ t. nat_le 1 t ≡ true) two some))
      (unread (λ s b. b ≡ true) old true opened (λ s. refl))

  -- its row tells
  pub tells_by_row : {E F : Type 0} (old new : Connected) (rows : Vec Row Global) (b : Bool) → nat_le 1 tries ≡ false → b ≡ has_row rows.items
      → ReadsBy {E = E} (λ s rows. (p : OutEntry → Bool) (d : OutEntry) → find p s.outbox ≡ Some d → number ≡ d.number
      → d.begun ≡ (nat_le 1 d.tries || has_row rows.items)) old new (Ok rows) → ReadsBy {E = F} tells old new (Ok b)
  tells_by_row old new rows b none is it =
      read_ok _ tells old new rows b
      (λ s r told p d found one two. is ∙ sym (told p d found one ∙ ap (λ t. t || has_row rows.items) (subst (λ t. nat_le 1 t ≡ false) two none))) it

-- rows, or none
pub some_rows : (rows : List Row) → has_row rows ≡ not (length rows == 0)
some_rows [] = refl
some_rows (row ∷ rows) = grind (arith, nat_tests)
