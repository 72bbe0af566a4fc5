-- What the statements of a migration leave, and what the tables stand for then.
use Rattle.std.proofs.Common.{◌≡◌, ◌∙◌, ℕ, ◌||◌, nat_le, List, [], ◌∷◌, ◌++◌, map, filter, Ok, Bool, true, false, pos, negsuc, refl, sym, ap, ap₂, subst, arith}
use Rattle.std.specs.List.{AllByRecursion}
use Rattle.std.proofs.lemmas.List.Sorted.{IsPermutation-refl}
use Rattle.sqlite.specs.declared.types.Value.TheVariants.{Int}
use Rattle.sqlite.specs.Cast.{cast_row}
use Rattle.sqlite.specs.Change.{KeepsRows}
use Rattle.sqlite.specs.Edit.{numbered, put_all}
use Rattle.sqlite.specs.Program.{overlay}
use Rattle.sqlite.specs.Rowids.TheVariants.{Chosen}
use Rattle.sqlite.specs.Term.{lit}
use Rattle.sqlite.specs.Order.{Row}
use Rattle.sqlite.specs.Effect.{Database}
use Rattle.sqlite.specs.State.{State as Connected, Executes}
use Rattle.sqlite.specs.Table.{Table}
use Rattle.sql_tables.specs.Changes.{ChangesTable}
use Rattle.sql_tables.proofs.Changing.{updates}
use Rattle.sql_tables.proofs.Creating.{makes_table}
use Rattle.sql_tables.proofs.Deleting.{deletes}
use Rattle.sql_tables.proofs.Queries.{by_number, shows_entries}
use Rattle.sql_tables.proofs.Sorting.{no_rows, unchanged}
use Rattle.sql_tables.proofs.Writes.{cast_int, cast_null}
use Rattle.as2_exchange.specs.Run.{migrated_state}
use Rattle.as2_exchange.specs.State.{State, LaterVersion}
use Rattle.as2_exchange.specs.declared.inbox.InEntry.{InEntry}
use Rattle.as2_exchange.specs.declared.outbox.OutEntry.{OutEntry}
use Rattle.as2_records.specs.Standing.{IsCounted}
use Rattle.as2_rows.specs.Rows.{in_row}
use Rattle.as2_store.specs.Migrating.{beside_schema, AreShared, IsBeside, IsCopied, IsInboxBeside, IsMoved, IsNearly, StandsBut}
use Rattle.as2_store.specs.Stands.{IsWhole, Stands, HasEntries, HasResent, AreTried, inbox_pieces, meta_row, numbers_of, origin_row, resent_row}
use Rattle.as2_store.specs.Tables.{Way, Fresh, Migrated, Layout, number_of, VersionOne, VersionTwo, VersionThree, current_number, schema_of, store_schema, inbox2_made, inbox2_piece_made, origin_made, resent_made, behind_meta, meta_table, meta_tree, inbox_table, inbox_tree, inbox_piece_table, origin_table, first_inbox_table, first_inbox_tree, origin_tree}
use Rattle.as2_store.proofs.Copying.{copies, none_compared, puts_in_order}
use Rattle.as2_store.proofs.ForeignKeys.{quiet}
use Rattle.as2_store.proofs.InboxRow.{cast_url, cast_digest, cast_mic}
use Rattle.as2_store.proofs.Making.{inbox_is, inbox_piece_is, origin_is, resent_is}
use Rattle.as2_store.proofs.MigrationTexts.{first_schema, beside_inbox, beside_origin, inbox_create, inbox_plain, piece_create, piece_plain, origin_create, origin_plain, resent_create, resent_plain, second_create, second_plain, copy_inbox_terms, copy_inbox_is, copy_inbox_plain, clear_inbox_is, clear_inbox_plain, version_project, version_is, version_plain}
use Rattle.as2_store.proofs.NumberedRows.{entries_rise, numbers_rise}
use Rattle.as2_store.proofs.Statements.{inbox2_text, inbox2_piece_text, origin_text, resent_text, copy_inbox_text, clear_inbox_text, version_text}
use Rattle.as2_store.proofs.Untouched.{AtMeta, AtInboxPiece, AtOutbox, AtOutboxPiece, AtEvidence, AtWaiting, AtInbox, AtOrigin, AtResent, keeping, entries_kept, still_emptied, still_entries, still_origin, still_resent}
use Rattle.as2_store.proofs.WaitingRows.{cast_optional}

-- ---- tables beside those of the first version

-- one more leaves the entries
entries_beside : (rest : List Table) (old new : Database) (s : State) → KeepsRows (meta_table ∷ (behind_meta VersionOne ++ rest)) old.trees new.trees
    → HasEntries VersionOne old s → HasEntries VersionOne new s
entries_beside rest old new s o has =
    still_entries VersionOne VersionOne old new s o.1.0 o.1.1.0 o.1.1.1.0 o.1.1.1.1.0 o.1.1.1.1.1.0 o.1.1.1.1.1.1.0 has

pub makes_inbox_beside : (a b c : Connected) (i j : ℕ) → Executes inbox2_text [] a b (Ok i) → Executes inbox2_piece_text [] b c (Ok j) → (s : State)
    → Stands VersionOne a.now s → IsInboxBeside c.now s
makes_inbox_beside a b c i j one two s it =
    let m1 = makes_table inbox2_text a b first_schema it.schema inbox2_made inbox_is inbox_plain refl inbox_create.0 inbox_create.1 i one in
    let m2 = makes_table inbox2_piece_text b c beside_inbox m1.schema_is inbox2_piece_made inbox_piece_is piece_plain refl piece_create.0
    piece_create.1 j two in
    let o1 = m1.others in
    let o2 = m2.others in
    record {
      schema = m2.schema_is;
      meta = o2.0 ∙ o1.0 ∙ it.meta;
      entries = entries_beside (inbox_table Migrated ∷ []) b.now c.now s o2 (entries_beside [] a.now b.now s o1 it.entries);
      no_inbox = o2.1.1.1.1.1.1.1.0 ∙ m1.empty;
      no_piece = m2.empty;
    }

pub makes_beside : (a b c : Connected) (i j : ℕ) → Executes origin_text [] a b (Ok i) → Executes resent_text [] b c (Ok j) → (s : State)
    → IsInboxBeside a.now s → IsBeside c.now s
makes_beside a b c i j one two s it =
    let m1 = makes_table origin_text a b beside_schema it.schema origin_made origin_is origin_plain refl origin_create.0 origin_create.1 i one in
    let m2 = makes_table resent_text b c beside_origin m1.schema_is resent_made resent_is resent_plain refl resent_create.0 resent_create.1 j two in
    let o1 = m1.others in
    let o2 = m2.others in
    record {
      schema = m2.schema_is;
      meta = o2.0 ∙ o1.0 ∙ it.meta;
      entries = entries_beside (inbox_table Migrated ∷ inbox_piece_table Migrated ∷ origin_table Migrated ∷ []) b.now c.now s o2
          (entries_beside (inbox_table Migrated ∷ inbox_piece_table Migrated ∷ []) a.now b.now s o1 it.entries);
      no_inbox = o2.1.1.1.1.1.1.1.0 ∙ o1.1.1.1.1.1.1.1.0 ∙ it.no_inbox;
      no_piece = o2.1.1.1.1.1.1.1.1.0 ∙ o1.1.1.1.1.1.1.1.1.0 ∙ it.no_piece;
      no_origin = o2.1.1.1.1.1.1.1.1.1.0 ∙ m1.empty;
      no_resent = m2.empty;
    }

-- ---- the inbox moves

every : {X : Type 0} (xs : List X) → filter (λ _. true) xs ≡ xs
every [] = refl
every (x ∷ xs) = ap (λ l. x ∷ l) (every xs)

none_left : {X : Type 0} (xs : List X) → filter (λ _. false) xs ≡ []
none_left [] = refl
none_left (x ∷ xs) = none_left xs

-- no document has a row, and those that were tried are begun
none_resent : {rows : List Row} (ds : List OutEntry) → rows ≡ [] → AreTried ds → HasResent rows ds
none_resent ds none tried = record { was = λ _. false; rows_are = none ∙ sym (ap (map resent_row) (none_left (numbers_of ds))); begun = each ds tried }
  where
    or_false : (b : Bool) → b ≡ (b || false)
    or_false true = refl
    or_false false = refl

    each : (ds : List OutEntry) → AreTried ds → AllByRecursion (λ d. d.begun ≡ (nat_le 1 d.tries || false)) ds
    each [] all = tt
    each (d ∷ ds) all = (all.0 ∙ or_false (nat_le 1 d.tries), each ds all.1)

cast_entries : (es : List InEntry) → map (λ s. cast_row (inbox_table Migrated) s) (map in_row es) ≡ map in_row es
cast_entries [] = refl
cast_entries (e ∷ es) = ap₂ ◌∷◌ (one e) (cast_entries es)
  where
    one : (e : InEntry) → cast_row (inbox_table Migrated) (in_row e) ≡ in_row e
    one e = simp (cast_int, cast_null, cast_optional, cast_url, cast_digest, cast_mic)

module _ (s : State) (from : IsCounted s) where
  pub copies_inbox : (b c : Connected) (count : ℕ) → IsBeside b.now s → Executes copy_inbox_text [] b c (Ok count)
      → ChangesTable b c (store_schema Migrated) (inbox_tree Migrated) (map in_row s.inbox)
  copies_inbox b c count it h =
      let copied = copies copy_inbox_text [] b c (store_schema Migrated) it.schema 7
      (inbox_table Migrated) refl refl refl _ copy_inbox_is copy_inbox_plain count h in
      let table = entries_rise in_row (λ (e : InEntry). e.number) (λ _. refl) s.next_in s.inbox from.receipts.1 in
      let shown : copied.sources ≡ map in_row s.inbox =
      shows_entries first_inbox_tree [] copy_inbox_terms (lit (Int (negsuc 0))) b.now.trees [] copied.sources in_row (λ _. true) in_row (λ _. refl)
      (λ _. refl) s.inbox it.entries.inbox table
      (none_compared first_inbox_tree [] copy_inbox_terms by_number _ (overlay b.now.trees []) [] copied.sources copied.answers.answer)
      ∙ ap (map in_row) (every s.inbox) in
      let rows = b.now.trees (inbox_tree Migrated) in
      copied.changed (map in_row s.inbox)
      (ap (λ l. put_all rows (numbered Chosen rows l)) (ap (map (λ r. cast_row (inbox_table Migrated) r)) shown ∙ cast_entries s.inbox)
      ∙ puts_in_order in_row (λ (e : InEntry). e.number) (λ _. refl) rows s.inbox it.no_inbox
      (numbers_rise (λ (e : InEntry). e.number) s.next_in s.inbox from.receipts.1))

  clears_inbox : (b c : Connected) (count : ℕ) → b.now.schema ≡ store_schema Migrated → b.now.trees first_inbox_tree ≡ map in_row s.inbox
      → Executes clear_inbox_text [] b c (Ok count) → ChangesTable b c (store_schema Migrated) first_inbox_tree []
  clears_inbox b c count has there h =
      let table = entries_rise in_row (λ (e : InEntry). e.number) (λ _. refl) s.next_in s.inbox from.receipts.1 in
      let done = deletes clear_inbox_text [] b c (store_schema Migrated) has 1 first_inbox_table refl [] (λ (e : InEntry). pos e.number) in_row
      (λ _. refl) s.inbox there table (quiet Migrated first_inbox_tree) clear_inbox_is clear_inbox_plain count h in
      subst (ChangesTable b c (store_schema Migrated) first_inbox_tree) (ap (map in_row) (none_left s.inbox)) done.0

  pub copied_inbox : (a b : Connected) (i : ℕ) → Executes copy_inbox_text [] a b (Ok i) → IsBeside a.now s → AreShared b.now s
  copied_inbox a b i one it =
      let has = it.entries in
      let first = copies_inbox a b i it one in
      let o = first.others in
      let k = keeping Migrated AtInbox a.now.trees b.now.trees o in
      record {
        schema = first.schema_is;
        meta = k AtMeta (λ e. omega arith) ∙ it.meta;
        first_inbox = o.1.0 (λ e. omega arith) ∙ has.inbox;
        inbox = first.rows_are;
        moved = [];
        left = inbox_pieces s.inbox;
        all = IsPermutation-refl (inbox_pieces s.inbox);
        contents = unchanged (k AtInboxPiece (λ e. omega arith) ∙ it.no_piece) no_rows;
        first_contents = unchanged (o.1.1.0 (λ e. omega arith)) has.inbox_contents;
        outbox = k AtOutbox (λ e. omega arith) ∙ has.outbox;
        outbox_contents = unchanged (k AtOutboxPiece (λ e. omega arith)) has.outbox_contents;
        evidence = k AtEvidence (λ e. omega arith) ∙ has.evidence;
        waits = k AtWaiting (λ e. omega arith) ∙ has.waits;
        no_origin = k AtOrigin (λ e. omega arith) ∙ it.no_origin;
        no_resent = k AtResent (λ e. omega arith) ∙ it.no_resent;
      }

  pub emptied_first : (a b : Connected) (i : ℕ) → Executes clear_inbox_text [] a b (Ok i) → IsCopied a.now s → IsMoved b.now s
  emptied_first a b i one it =
      let done = clears_inbox a b i it.schema it.first_inbox one in
      let o = done.others in
      record {
        schema = done.schema_is;
        meta = o.0 (λ e. omega arith) ∙ it.meta;
        entries = still_entries (VersionThree Migrated) (VersionThree Migrated) a.now b.now s (o.1.1.1.1.1.1.1.0 (λ e. omega arith))
            (o.1.1.1.1.1.1.1.1.0 (λ e. omega arith)) (o.1.1.1.0 (λ e. omega arith)) (o.1.1.1.1.0 (λ e. omega arith))
            (o.1.1.1.1.1.0 (λ e. omega arith)) (o.1.1.1.1.1.1.0 (λ e. omega arith)) it.entries;
        left = (done.rows_are, (o.1.1.0 (λ e. omega arith) ∙ it.no_content, tt));
        no_origin = o.1.1.1.1.1.1.1.1.1.0 (λ e. omega arith) ∙ it.no_origin;
        no_resent = o.1.1.1.1.1.1.1.1.1.1.0 (λ e. omega arith) ∙ it.no_resent;
      }

-- and the origin is told
pub originated : (a b c : Connected) (s : State) (next : ℕ) → Stands VersionOne a.now s → next ≡ s.next_in → IsMoved b.now s
    → ChangesTable b c (store_schema Migrated) (origin_tree Migrated) (origin_row next ∷ []) → StandsBut 1 Migrated c.now (migrated_state s)
originated a b c s next from is it one =
    let k1 = keeping Migrated AtOrigin b.now.trees c.now.trees one.others in
    let has = entries_kept Migrated AtOrigin b.now c.now s (λ n low high e. omega (arith, low, high, e)) one.others it.entries in
    record {
      schema = one.schema_is;
      meta = k1 AtMeta (λ e. omega arith) ∙ it.meta;
      entries = record {
        inbox = has.inbox;
        inbox_contents = has.inbox_contents;
        outbox = has.outbox;
        outbox_contents = has.outbox_contents;
        evidence = has.evidence;
        waits = has.waits;
      };
      version = record { number = next; rows_are = one.rows_are; version_is = ap LaterVersion (sym is) };
      begun = none_resent s.outbox (k1 AtResent (λ e. omega arith) ∙ it.no_resent) from.begun;
      left = still_emptied Migrated AtOrigin b.now c.now one.others it.left;
      receipts = from.receipts;
      documents = from.documents;
    }

-- ---- one table more, for the second version

pub makes_third : (way : Way) (a b : Connected) (count : ℕ) (s : State) → Stands (VersionTwo way) a.now s → Executes resent_text [] a b (Ok count)
    → StandsBut 2 way b.now s
makes_third Fresh a b count s it h =
    let m = makes_table resent_text a b (schema_of (VersionTwo Fresh)) it.schema resent_made resent_is (second_plain Fresh) refl
    (second_create Fresh).0 (second_create Fresh).1 count h in
    let o = m.others in
    record {
      schema = m.schema_is;
      meta = o.0 ∙ it.meta;
      entries = still_entries (VersionTwo Fresh) (VersionThree Fresh) a.now b.now s o.1.0 o.1.1.0 o.1.1.1.0 o.1.1.1.1.0 o.1.1.1.1.1.0 o.1.1.1.1.1.1.0
          it.entries;
      version = still_origin o.1.1.1.1.1.1.1.0 it.version;
      begun = none_resent s.outbox m.empty it.begun;
      left = tt;
      receipts = it.receipts;
      documents = it.documents;
    }
makes_third Migrated a b count s it h =
    let m = makes_table resent_text a b (schema_of (VersionTwo Migrated)) it.schema resent_made resent_is (second_plain Migrated) refl
    (second_create Migrated).0 (second_create Migrated).1 count h in
    let o = m.others in
    record {
      schema = m.schema_is;
      meta = o.0 ∙ it.meta;
      entries = still_entries (VersionTwo Migrated) (VersionThree Migrated) a.now b.now s o.1.1.1.1.1.1.1.0 o.1.1.1.1.1.1.1.1.0 o.1.1.1.0 o.1.1.1.1.0
          o.1.1.1.1.1.0 o.1.1.1.1.1.1.0 it.entries;
      version = still_origin o.1.1.1.1.1.1.1.1.1.0 it.version;
      begun = none_resent s.outbox m.empty it.begun;
      left = (o.1.0 ∙ it.left.0, (o.1.1.0 ∙ it.left.1.0, tt));
      receipts = it.receipts;
      documents = it.documents;
    }

-- ---- the version's number

pub raises_version : (way : Way) (a b : Connected) (number next_in next_out count : ℕ) → a.now.schema ≡ store_schema way
    → a.now.trees meta_tree ≡ meta_row number next_in next_out ∷ [] → Executes version_text [] a b (Ok count)
    → ChangesTable a b (store_schema way) meta_tree (meta_row current_number next_in next_out ∷ [])
raises_version way a b number next_in next_out count has there h =
    (updates version_text [] a b (store_schema way) has 0 meta_table refl [] version_project (λ _. pos 1) (λ (k : ℕ). meta_row k next_in next_out)
    (λ _. refl) (λ _. meta_row current_number next_in next_out) (λ _. refl) (λ _. simp cast_int)
    (number ∷ []) there (tt, tt) (quiet way meta_tree) (version_is way) (version_plain way) count h).0

pub stands_raised : (number : ℕ) (way : Way) (a b : Connected) (s : State) → StandsBut number way a.now s
    → ChangesTable a b (store_schema way) meta_tree (meta_row current_number s.next_in s.next_out ∷ []) → Stands (VersionThree way) b.now s
unfolding IsWhole
stands_raised number way a b s it one =
    let k1 = keeping way AtMeta a.now.trees b.now.trees one.others in
    record {
      sound = one.sound;
      schema = one.schema_is;
      meta = one.rows_are;
      entries = entries_kept way AtMeta a.now b.now s (λ n low high e. omega (arith, low, high, e)) one.others it.entries;
      version = still_origin (k1 AtOrigin (λ e. omega arith)) it.version;
      begun = still_resent (k1 AtResent (λ e. omega arith)) it.begun;
      left = still_emptied way AtMeta a.now b.now one.others it.left;
      receipts = it.receipts;
      documents = it.documents;
    }

-- ---- each version

pub nearly_first : (layout : Layout) (a b : Connected) (s : State) (next : ℕ) → number_of layout ≡ 1 → next ≡ s.next_in → Stands layout a.now s
    → ((s : State) → Stands VersionOne a.now s → next ≡ s.next_in → StandsBut 1 Migrated b.now (migrated_state s)) → IsNearly layout b.now s
nearly_first VersionOne a b s next which is it moved = record { state = migrated_state s; is = refl; number = 1; way = Migrated; stands = moved s it is }
nearly_first (VersionTwo way) a b s next which is it moved = absurd (omega (arith, which))
nearly_first (VersionThree way) a b s next which is it moved = absurd (omega (arith, which))

pub nearly_second : (layout : Layout) (a b : Connected) (s : State) → number_of layout ≡ 2 → Stands layout a.now s
    → ((way : Way) (s : State) → Stands (VersionTwo way) a.now s → StandsBut 2 way b.now s) → IsNearly layout b.now s
nearly_second VersionOne a b s which it moved = absurd (omega (arith, which))
nearly_second (VersionTwo way) a b s which it moved = record { state = s; is = refl; number = 2; way = way; stands = moved way s it }
nearly_second (VersionThree way) a b s which it moved = absurd (omega (arith, which))
