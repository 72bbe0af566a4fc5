-- What the statements of `create` leave.
use Rattle.std.proofs.Common.{◌≡◌, ℕ, ◌<◌, ◌≤◌, List, [], ◌∷◌, codes, Ok, IsTrue, true, false, refl, sym, ap, subst, ◌∙◌, pos, arith}
use Rattle.std.specs.List.{AllByRecursion, IsDistinct}
use Rattle.sqlite.specs.declared.types.Value.TheVariants.{Null, Int, Text}
use Rattle.sqlite.specs.Order.{Row}
use Rattle.sqlite.specs.Table.{Table}
use Rattle.sqlite.specs.Schema.{Schema}
use Rattle.sqlite.specs.Tree.{Trees, put_row}
use Rattle.sqlite.specs.Edit.{next_rowid}
use Rattle.sqlite.specs.Change.{created, next_tree, KeepsRows}
use Rattle.sqlite.specs.Store.{Ghosts}
use Rattle.sqlite.specs.Held.{Held, state}
use Rattle.sqlite.specs.Effect.{Database}
use Rattle.sqlite.proofs.StateLemmas.{survives_then}
use Rattle.sqlite.proofs.Callers.{survives_begin}
use Rattle.sqlite.specs.State.{State as Connected, HasCleanDisk, Survives, Shows, Executes}
use Rattle.sqlite_trees.proofs.ListLemmas.{all-append}
use Rattle.sql_tables.specs.Changes.{ChangesTable, AddsTable, AddsIndex}
use Rattle.sql_tables.proofs.Sorting.{unchanged, no_rows}
use Rattle.sql_tables.proofs.Writes.{cast_null, cast_int, IsOneRow, inserts_chosen}
use Rattle.sql_tables.proofs.Creating.{makes_table}
use Rattle.sql_tables.proofs.Indexing.{makes_index}
use Rattle.as2_exchange.specs.State.{end_of_numbers}
use Rattle.as2_store.specs.Tables.{Way, Fresh, VersionThree, current_number, meta_made, inbox2_made, inbox2_piece_made, outbox_made, outbox_piece_made, evidence_made, waiting_made, waiting_table, waiting_due_made, origin_made, resent_made, no_schema, inbox_schema, outbox_schema, waiting_schema, store_schema, meta_table, meta_tree, origin_table, origin_tree}
use Rattle.as2_store.proofs.Statements.{meta_text, inbox2_text, inbox2_piece_text, outbox_text, outbox_piece_text, evidence_statement, waiting_text, waiting_due_text, origin_text, resent_text, meta_put_text, origin_put_text}
use Rattle.as2_store.specs.Stands.{IsWhole, Stands, Holds, HasNoRow, IsBlank, meta_row, origin_row}
use Rattle.as2_store.specs.Calls.{IsInside, Keeps, CommitsFirst, Creates, empty_store}
use Rattle.as2_store.proofs.TransactionEnds.{rests_committed}
use Rattle.as2_store.proofs.Committing.{keeps_of}
use Rattle.as2_store.proofs.Making.{meta_is, inbox_is, inbox_piece_is, outbox_is, outbox_piece_is, evidence_is, waiting_is, waiting_due_is, meta_create, meta_plain, inbox_create, inbox_plain, inbox_piece_create, inbox_piece_plain, outbox_create, outbox_plain, outbox_piece_create, outbox_piece_plain, evidence_create, evidence_plain, waiting_create, waiting_plain, waiting_due_create, waiting_due_plain, origin_is, origin_create, origin_plain, resent_is, resent_create, resent_plain, with_meta, with_inbox, with_outbox, with_outbox_piece, with_waiting, with_origin}
use Rattle.as2_store.proofs.Texts.{meta_put_terms, meta_put_is, meta_put_plain, origin_place, origin_there, origin_put_terms, origin_put_is, origin_put_plain}
use Rattle.as2_store.proofs.Untouched.{AtMeta, AtInbox, AtInboxPiece, AtOutbox, AtOutboxPiece, AtEvidence, AtWaiting, AtOrigin, AtResent, keeping}

still_empty : (old new : Trees) (tables : List Table) → AllByRecursion (λ t. old t.tree ≡ []) tables → KeepsRows tables old new
    → AllByRecursion (λ t. new t.tree ≡ []) tables
still_empty old new [] none kept = tt
still_empty old new (t ∷ tables) none kept = (kept.0 ∙ none.0, still_empty old new tables none.1 kept.1)

-- a table more, and still no row
pub one_more : (old new : Connected) (schema : Schema) (made : Table) → HasNoRow old.now schema → AddsTable old new schema (created schema made)
    → HasNoRow new.now (created schema made)
one_more old new schema made bare it = record {
  schema_is = it.schema_is;
  empty = all-append (λ t. new.now.trees t.tree ≡ []) schema.tables (record made { tree = next_tree schema } ∷ [])
      (still_empty old.now.trees new.now.trees schema.tables bare.empty it.others) (it.empty, tt);
}

pub makes_inbox : (a b c d : Connected) (i j k : ℕ) → Executes meta_text [] a b (Ok i) → Executes inbox2_text [] b c (Ok j)
    → Executes inbox2_piece_text [] c d (Ok k)
    → HasNoRow a.now no_schema → HasNoRow d.now inbox_schema
makes_inbox a b c d i j k one two three bare =
    let first = one_more a b no_schema meta_made bare
    (makes_table meta_text a b no_schema bare.schema_is meta_made meta_is meta_plain refl meta_create.0 meta_create.1 i one) in
    let second = one_more b c with_meta inbox2_made first
    (makes_table inbox2_text b c with_meta first.schema_is inbox2_made inbox_is inbox_plain refl inbox_create.0 inbox_create.1 j two) in
    one_more c d with_inbox inbox2_piece_made second
    (makes_table inbox2_piece_text c d with_inbox second.schema_is inbox2_piece_made inbox_piece_is inbox_piece_plain refl inbox_piece_create.0
    inbox_piece_create.1 k three)

pub makes_outbox : (a b c d : Connected) (i j k : ℕ) → Executes outbox_text [] a b (Ok i) → Executes outbox_piece_text [] b c (Ok j)
    → Executes evidence_statement [] c d (Ok k)
    → HasNoRow a.now inbox_schema → HasNoRow d.now outbox_schema
makes_outbox a b c d i j k one two three bare =
    let first = one_more a b inbox_schema outbox_made bare
    (makes_table outbox_text a b inbox_schema bare.schema_is outbox_made outbox_is outbox_plain refl outbox_create.0 outbox_create.1 i one) in
    let second = one_more b c with_outbox outbox_piece_made first
    (makes_table outbox_piece_text b c with_outbox first.schema_is outbox_piece_made outbox_piece_is outbox_piece_plain refl outbox_piece_create.0
    outbox_piece_create.1 j two) in
    one_more c d with_outbox_piece evidence_made second
    (makes_table evidence_statement c d with_outbox_piece second.schema_is evidence_made evidence_is evidence_plain refl evidence_create.0
    evidence_create.1 k three)

pub makes_waiting : (a b c : Connected) (i j : ℕ) → Executes waiting_text [] a b (Ok i) → Executes waiting_due_text [] b c (Ok j)
    → HasNoRow a.now outbox_schema → HasNoRow c.now waiting_schema
makes_waiting a b c i j one two bare =
    let first = one_more a b outbox_schema waiting_made bare
    (makes_table waiting_text a b outbox_schema bare.schema_is waiting_made waiting_is waiting_plain refl waiting_create.0 waiting_create.1 i one) in
    let second : AddsIndex b c with_waiting waiting_schema =
    makes_index waiting_due_text b c with_waiting first.schema_is 6 waiting_table refl waiting_due_made waiting_due_is waiting_due_plain
    waiting_due_create.0 waiting_due_create.1 j two in
    record { schema_is = second.schema_is; empty = still_empty b.now.trees c.now.trees with_waiting.tables first.empty second.others }

pub makes_later : (a b c : Connected) (i j : ℕ) → Executes origin_text [] a b (Ok i) → Executes resent_text [] b c (Ok j) → HasNoRow a.now waiting_schema
    → HasNoRow c.now (store_schema Fresh)
makes_later a b c i j one two bare =
    let first = one_more a b waiting_schema origin_made bare
    (makes_table origin_text a b waiting_schema bare.schema_is origin_made origin_is origin_plain refl origin_create.0 origin_create.1 i one) in
    one_more b c with_origin resent_made first
    (makes_table resent_text b c with_origin first.schema_is resent_made resent_is resent_plain refl resent_create.0 resent_create.1 j two)

-- ---- the first rows

abbrev pub first_params : ℕ → Row
first_params first = Int (pos first) ∷ []

first_row : (first : ℕ)
    → IsOneRow meta_table (first_params first) meta_put_terms 5 (Null ∷ Text (codes "as2-station") ∷ Int (pos 3) ∷ Int (pos first) ∷ Int (pos first) ∷ [])
first_row first = record {
  source = Null ∷ Text (codes "as2-station") ∷ Int (pos 3) ∷ Int (pos first) ∷ Int (pos first) ∷ [];
  made = refl;
  cast_is = simp (cast_null, cast_int);
}

pub puts_meta : (old new : Connected) (first count : ℕ) → HasNoRow old.now (store_schema Fresh) → Executes meta_put_text (first_params first) old new (Ok count)
    → ChangesTable old new (store_schema Fresh) meta_tree (meta_row current_number first first ∷ [])
puts_meta old new first count bare h =
    let it = inserts_chosen meta_put_text (first_params first) old new
    (store_schema Fresh) bare.schema_is 0 meta_table refl refl meta_put_terms 5 _ (first_row first) _ refl (meta_put_is Fresh)
    (meta_put_plain Fresh) count h in
    subst (λ rows. ChangesTable old new (store_schema Fresh) meta_tree
    (put_row (Int (next_rowid rows) ∷ Text (codes "as2-station") ∷ Int (pos 3) ∷ Int (pos first) ∷ Int (pos first) ∷ []) rows)) bare.empty.0 it

origin_one : (way : Way) (number : ℕ) → IsOneRow (origin_table way) (first_params number) origin_put_terms 2 (Null ∷ Int (pos number) ∷ [])
origin_one way number = record { source = Null ∷ Int (pos number) ∷ []; made = refl; cast_is = simp (cast_null, cast_int) }

-- the origin goes into a table without rows
pub puts_origin : (way : Way) (old new : Connected) (number count : ℕ) → old.now.schema ≡ store_schema way → old.now.trees (origin_tree way) ≡ []
    → Executes origin_put_text (first_params number) old new (Ok count)
    → ChangesTable old new (store_schema way) (origin_tree way) (origin_row number ∷ [])
puts_origin way old new number count has none h =
    let it = inserts_chosen origin_put_text (first_params number) old new (store_schema way) has (origin_place way) (origin_table way)
    (origin_there way) refl origin_put_terms 2 _ (origin_one way number) _ refl (origin_put_is way) (origin_put_plain way) count h in
    subst (λ rows. ChangesTable old new (store_schema way) (origin_tree way) (put_row (Int (next_rowid rows) ∷ Int (pos number) ∷ []) rows)) none it

pub none_yet : (a b : Connected) (first : ℕ) → HasNoRow a.now (store_schema Fresh)
    → ChangesTable a b (store_schema Fresh) meta_tree (meta_row current_number first first ∷ []) → b.now.trees (origin_tree Fresh) ≡ []
none_yet a b first bare one = keeping Fresh AtMeta a.now.trees b.now.trees one.others AtOrigin (λ e. omega arith) ∙ bare.empty.1.1.1.1.1.1.1.0

pub stands_empty : (a b c : Connected) (first : ℕ) → 1 ≤ first → first < end_of_numbers → HasNoRow a.now (store_schema Fresh)
    → ChangesTable a b (store_schema Fresh) meta_tree (meta_row current_number first first ∷ [])
    → ChangesTable b c (store_schema Fresh) (origin_tree Fresh) (origin_row 0 ∷ []) → Stands (VersionThree Fresh) c.now (empty_store first)
unfolding IsDistinct IsWhole
stands_empty a b c first least most bare one two =
    let k1 = keeping Fresh AtMeta a.now.trees b.now.trees one.others in
    let k2 = keeping Fresh AtOrigin b.now.trees c.now.trees two.others in
    record {
      sound = two.sound;
      schema = two.schema_is;
      meta = k2 AtMeta (λ e. omega arith) ∙ one.rows_are;
      entries = record {
        inbox = k2 AtInbox (λ e. omega arith) ∙ k1 AtInbox (λ e. omega arith) ∙ bare.empty.1.0;
        inbox_contents = unchanged (k2 AtInboxPiece (λ e. omega arith) ∙ k1 AtInboxPiece (λ e. omega arith) ∙ bare.empty.1.1.0) no_rows;
        outbox = k2 AtOutbox (λ e. omega arith) ∙ k1 AtOutbox (λ e. omega arith) ∙ bare.empty.1.1.1.0;
        outbox_contents = unchanged (k2 AtOutboxPiece (λ e. omega arith) ∙ k1 AtOutboxPiece (λ e. omega arith) ∙ bare.empty.1.1.1.1.0) no_rows;
        evidence = k2 AtEvidence (λ e. omega arith) ∙ k1 AtEvidence (λ e. omega arith) ∙ bare.empty.1.1.1.1.1.0;
        waits = k2 AtWaiting (λ e. omega arith) ∙ k1 AtWaiting (λ e. omega arith) ∙ bare.empty.1.1.1.1.1.1.0;
      };
      version = record { number = 0; rows_are = two.rows_are; version_is = refl };
      begun = record {
        was = λ _. false;
        rows_are = k2 AtResent (λ e. omega arith) ∙ k1 AtResent (λ e. omega arith)
            ∙ bare.empty.1.1.1.1.1.1.1.1.0;
        begun = tt;
      };
      left = tt;
      receipts = (record { least = least; most = omega (arith, most) }, record { below = tt; distinct = tt; in_order = tt });
      documents = (record { least = least; most = omega (arith, most) }, record { below = tt; distinct = tt; in_order = tt });
    }

-- ---- the transaction

-- the tables and the row of `meta` stand for the state without entries, where no table was
pub record MakesFirst {S : Type 0} (g : Ghosts S) (old : Held S) (last : Connected) (first : ℕ) : Type 0 where
  pub was_open : IsTrue (state g old).is_open
  pub stands : IsBlank (state g old) → Stands (VersionThree Fresh) last.now (empty_store first)

pub made_first : {S : Type 0} (g : Ghosts S) (old : Held S) (mid last : Connected) (first : ℕ) → (HasCleanDisk last → HasCleanDisk mid)
    → (HasCleanDisk mid → IsTrue (state g old).is_open)
    → (HasCleanDisk mid → HasNoRow (state g old).now no_schema → HasNoRow mid.now (store_schema Fresh))
    → (HasCleanDisk last → HasNoRow mid.now (store_schema Fresh) → Stands (VersionThree Fresh) last.now (empty_store first))
    → HasCleanDisk last → MakesFirst g old last first
made_first g old mid last first was opened tables rows clean = record {
  was_open = opened (was clean);
  stands = λ blank.
      rows clean (tables (was clean) (record { schema_is = blank.no_table (opened (was clean)); empty = tt }));
}

pub first_commits : {S : Type 0} (g : Ghosts S) (old : Held S) (last : Connected) (first : ℕ) → MakesFirst g old last first → (db : Trees)
    → db ≡ last.now.trees → CommitsFirst first (state g old) db
first_commits g old last first it db is = record {
  was_open = it.was_open;
  stands = λ blank. subst (λ (t : Trees). Keeps t (empty_store first)) (sym is)
      (keeps_of last.now (empty_store first) (record { way = Fresh; stands = it.stands blank }));
}

pub creates : {S : Type 0} (g : Ghosts S) (old : Held S) (last : Connected) (end : Held S) (first : ℕ)
    → IsInside 0 (state g (record old { in_transaction = true })) last → Survives last (state g end) (λ db. db ≡ last.now.trees)
    → (HasCleanDisk last → MakesFirst g old last first) → (HasCleanDisk (state g end) → Shows last (state g end) last.now last.now false)
    → (settled : (db : Trees) → IsTrue (state g end).is_open → (state g end).may_leave db → db ≡ (state g end).committed.trees)
    → Creates first (state g old) (state g end)
creates g old last end first inside survives makes shows settled =
    let was : HasCleanDisk (state g end) → HasCleanDisk last = λ clean. omega (arith, survives.clean, clean) in
    record {
      clean = λ clean. inside.clean (was clean);
      is_open = λ clean. (shows clean).is_open;
      done = λ clean blank.
          let shown = shows clean in
          let stood : Holds last.now (empty_store first) = record { way = Fresh; stands = (makes (was clean)).stands blank } in
          record {
            state = empty_store first;
            is = refl;
            rests = rests_committed last (state g end) (empty_store first) stood shown;
            lasts = record {
              each = λ db may. subst (λ (t : Trees). Keeps t (empty_store first))
                  (sym (settled db shown.is_open may ∙ ap (λ (d : Database). d.trees) shown.committed_is)) (keeps_of last.now (empty_store first) stood);
            };
          };
      crash = survives_then (state g old) last (state g end) (λ _. ⊥) (λ db. db ≡ last.now.trees) (CommitsFirst first (state g old)) (λ _ db none. absurd none)
          (λ clean db is. first_commits g old last first (makes (omega (arith, survives.clean, clean))) db is)
          (survives_begin g old last (λ _. ⊥) inside.survives) survives;
    }
