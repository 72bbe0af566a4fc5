-- What a migration commits, and what it leaves where it fails.
use Rattle.std.proofs.Common.{◌≡◌, ◌⊎◌, ◌∙◌, inl, inr, ℕ, List, [], ◌∷◌, codes, Option, Some, None, IsTrue, true, false, refl, sym, ap, subst, arith}
use Rattle.sqlite_trees.specs.Tree.{Trees}
use Rattle.sqlite.specs.Effect.{Database}
use Rattle.sqlite.specs.Held.{Held, state}
use Rattle.sqlite.specs.Listing.{understood}
use Rattle.sqlite.specs.Order.{Row}
use Rattle.sqlite.specs.Schema.{Schema}
use Rattle.sqlite.specs.State.{State as Connected, FailsToQuery, HasCleanDisk, IsTooLate, Shows, Shown, Survives}
use Rattle.sqlite.specs.Store.{Ghosts}
use Rattle.sqlite.specs.declared.error.Error.{Error}
use Rattle.sqlite.proofs.Callers.{IsPlain, survives_begin}
use Rattle.sqlite.proofs.StateLemmas.{survives_then}
use Rattle.sql_tables.specs.Changes.{IsOutside}
use Rattle.sql_tables.proofs.Inside.{shown_open, shown_same}
use Rattle.as2_exchange.specs.State.{State}
use Rattle.as2_exchange.specs.declared.fault.StoreFault.{StoreFault}
use Rattle.as2_exchange.specs.declared.fault.StoreFault.TheVariants.{Memory, Disk, Refused, Damaged, Full, NotAStore, OtherVersion}
use Rattle.as2_records.specs.Standing.{may_come}
use Rattle.as2_store.specs.Calls.{IsInside, Keeps, KeepsNextTables}
use Rattle.as2_store.specs.Migrating.{CommitsMigrated, IsMigrationReason, StandsForMigrated, Migrates, RestsAs, is_full, migrated_from, migration_fault}
use Rattle.as2_store.specs.Stands.{MetaSays, Stands}
use Rattle.as2_store.specs.Tables.{Layout, VersionOne, VersionTwo, VersionThree, behind_meta, indexes_of, number_of}
use Rattle.as2_store.proofs.Committing.{keeps_of}
use Rattle.as2_store.proofs.HandedBack.{fails_by, row_fails, row_shown}
use Rattle.as2_store.proofs.MetaRow.{meta_cells, says_of}
use Rattle.as2_store.proofs.Statements.{meta_read_text}
use Rattle.as2_store.proofs.Texts.{meta_read_plain}
use Rattle.as2_store.proofs.TransactionEnds.{rests_committed}

-- the statements took each state that tables of any version stood for to the next one
pub record MovesEach {S : Type 0} (g : Ghosts S) (old : Held S) (last : Connected) : Type 0 where
  pub was_open : IsTrue (state g old).is_open
  pub reaches : (layout : Layout) (s : State) → RestsAs layout (state g old) s → StandsForMigrated layout last.now s

-- what the row says of an earlier version
abbrev pub Tells : List Row → ℕ → ℕ → Type 0
Tells rows version next = (kind : List ℕ) (said n m : ℕ) → rows ≡ meta_cells kind said n m ∷ [] → (migration_fault kind said ≡ None)
    × (said ≡ version) × (next ≡ n)

pub moves_each : {S : Type 0} (g : Ghosts S) (old : Held S) (mid last : Connected) (rows : List Row) (version next : ℕ)
    → (HasCleanDisk last → HasCleanDisk mid) → (HasCleanDisk mid → Shown meta_read_text [] (state g (record old { in_transaction = true })) mid rows)
    → Tells rows version next
    → (HasCleanDisk last → (layout : Layout) (s : State) → Stands layout mid.now s → number_of layout ≡ version → next ≡ s.next_in
    → StandsForMigrated layout last.now s)
    → HasCleanDisk last → MovesEach g old last
unfolding says_of
moves_each g old mid last rows version next was shows told moved clean =
    let begun = state g (record old { in_transaction = true }) in
    let shown = shows (was clean) in
    let opened = shown_open meta_read_text [] begun mid rows shown in
    record {
      was_open = opened;
      reaches = λ layout s r.
          let stood = r.stands opened in
          let same = shown_same meta_read_text [] begun mid rows
          (subst (λ k. IsPlain (understood k meta_read_text)) (sym stood.schema) (meta_read_plain (behind_meta layout) (indexes_of layout))) shown in
          let says = told (codes "as2-station") (number_of layout) s.next_in s.next_out
          (row_shown g old mid rows shown (codes "as2-station") (number_of layout) (says_of layout (state g old) s stood)) in
          moved clean layout s (subst (λ (d : Database). Stands layout d s) (sym same.0.now_is) stood) says.1 says.2;
    }

next_kept : (layout : Layout) (d : Database) (s : State) (db : Trees) → db ≡ d.trees → StandsForMigrated layout d s
    → KeepsNextTables db (migrated_from layout s)
next_kept layout d s db is it = record { state = it.state; is = it.is; keeps = subst (λ (t : Trees). Keeps t it.state) (sym is) (keeps_of d it.state it.holds) }

pub moved_commits : {S : Type 0} (g : Ghosts S) (old : Held S) (last : Connected) → MovesEach g old last → (db : Trees) → db ≡ last.now.trees
    → CommitsMigrated (state g old) db
moved_commits g old last it db is = record { was_open = it.was_open; stands = λ layout s r. next_kept layout last.now s db is (it.reaches layout s r) }

pub migrates : {S : Type 0} (g : Ghosts S) (old : Held S) (mid last : Connected) (end : Held S) (rows : List Row) (version next : ℕ)
    → IsInside 0 (state g (record old { in_transaction = true })) last → Survives last (state g end) (λ db. db ≡ last.now.trees)
    → (HasCleanDisk last → HasCleanDisk mid) → (HasCleanDisk mid → Shown meta_read_text [] (state g (record old { in_transaction = true })) mid rows)
    → Tells rows version next → ((state g old).now.schema.tables ≡ [] → ⊥)
    → (HasCleanDisk last → MovesEach g old last) → (HasCleanDisk (state g end) → Shows last (state g end) last.now last.now false)
    → (settled : (db : Trees) → IsTrue (state g end).is_open → (state g end).may_leave db → db ≡ (state g end).committed.trees)
    → Migrates (state g old) (state g end)
migrates g old mid last end rows version next inside survives was_mid shows told tables each ends settled =
    let was : HasCleanDisk (state g end) → HasCleanDisk last = λ clean. omega (arith, survives.clean, clean) in
    record {
      clean = λ clean. inside.clean (was clean);
      is_open = λ clean. (ends clean).is_open;
      done = λ clean layout s r.
          let to = (each (was clean)).reaches layout s r in
          let shown = ends clean in
          record {
            state = to.state;
            is = to.is;
            rests = rests_committed last (state g end) to.state to.holds shown;
            lasts = record {
              each = λ db may. subst (λ (t : Trees). Keeps t to.state)
                  (sym (settled db shown.is_open may ∙ ap (λ (d : Database). d.trees) shown.committed_is)) (keeps_of last.now to.state to.holds);
            };
          };
      migration_fault = λ clean kind said it.
          (told kind said it.next_receipt it.next_document (row_shown g old mid rows (shows (was_mid (was clean))) kind said it)).0;
      no_blank = λ clean blank. tables (ap (λ (k : Schema). k.tables) (blank.no_table (each (was clean)).was_open));
      crash = survives_then (state g old) last (state g end) (λ _. ⊥) (λ db. db ≡ last.now.trees) (CommitsMigrated (state g old)) (λ _ db none. absurd none)
          (λ clean db is. moved_commits g old last (each (omega (arith, survives.clean, clean))) db is)
          (survives_begin g old last (λ _. ⊥) inside.survives) survives;
    }

-- ---- why tables aren't migrated

never_full : (f : StoreFault) → may_come f ≡ true → is_full f ≡ false
never_full Memory is = refl
never_full Disk is = refl
never_full Refused is = refl
never_full (Damaged place) is = refl
never_full Full is = absurd cc
never_full NotAStore is = refl
never_full OtherVersion is = refl

pub any_fault : (old : Connected) (f : StoreFault) → may_come f ≡ true → IsMigrationReason old f
any_fault old f is = record {
  not_full = never_full f is;
  of_earlier = λ layout s next r to. is;
  of_row = λ kind version it. inl is;
  of_blank = λ blank. inl is;
}

pub unread_row : {S : Type 0} (g : Ghosts S) (old : Held S) (mid : Connected) (e : Error) (f : StoreFault)
    → FailsToQuery meta_read_text [] (state g (record old { in_transaction = true })) mid e
    ⊎ IsTooLate meta_read_text [] (state g (record old { in_transaction = true })) mid e
    → (IsOutside e → may_come f ≡ true) → (may_come f ≡ true) ⊎ (f ≡ NotAStore) → IsMigrationReason (state g old) f
unread_row g old mid e f failed outside known = record {
  not_full = elim known [ inl comes ↦ never_full f comes | inr none ↦ ap is_full none ];
  of_earlier = λ layout s next r to. elim
      (fails_by g old mid e failed) [
        | inl out ↦ outside out
        | inr opened ↦ outside
            (row_fails g old mid e failed (codes "as2-station") (number_of layout) (says_of layout (state g old) s (r.stands opened)))
      ];
  of_row = λ kind version it. inl (outside (row_fails g old mid e failed kind version it));
  of_blank = λ blank. known;
}

tables_of : (layout : Layout) (c : Connected) (s : State) → Stands layout c.now s → c.now.schema.tables ≡ [] → ⊥
tables_of layout c s it none = let same = sym (ap (λ (k : Schema). k.tables) it.schema) ∙ none in cc

tables_said : (c : Connected) (kind : List ℕ) (version : ℕ) → MetaSays c kind version → c.now.schema.tables ≡ [] → ⊥
tables_said c kind version it none = let same = sym (ap (λ (k : Schema). k.tables) it.schema) ∙ none in cc

pub no_tables : (old : Connected) → IsTrue old.is_open → old.now.schema.tables ≡ [] → IsMigrationReason old NotAStore
no_tables old opened none = record {
  not_full = refl;
  of_earlier = λ layout s next r to. absurd (tables_of layout old s (r.stands opened) none);
  of_row = λ kind version it. absurd (tables_said old kind version it none);
  of_blank = λ blank. inr refl;
}

-- of a state that is migrated, kind and version say nothing against it
none_said : (layout : Layout) (s next : State) → migrated_from layout s ≡ Some next → migration_fault (codes "as2-station") (number_of layout) ≡ None
none_said VersionOne s next to = refl
none_said (VersionTwo way) s next to = refl
none_said (VersionThree way) s next to = absurd cc

-- what is said of a slice is said of the rows that it shows
pub says_in : (slice rows : List Row) (f : StoreFault) → slice ≡ rows → (may_come f ≡ true)
    ⊎ ((kind : List ℕ) (version n m : ℕ) → slice ≡ meta_cells kind version n m ∷ [] → migration_fault kind version ≡ Some f)
    → (may_come f ≡ true) ⊎ ((kind : List ℕ) (version n m : ℕ) → rows ≡ meta_cells kind version n m ∷ [] → migration_fault kind version ≡ Some f)
says_in slice rows f same it =
    subst (λ (l : List Row). (may_come f ≡ true)
    ⊎ ((kind : List ℕ) (version n m : ℕ) → l ≡ meta_cells kind version n m ∷ [] → migration_fault kind version ≡ Some f)) same it

pub row_says : {S : Type 0} (g : Ghosts S) (old : Held S) (mid : Connected) (rows : List Row) (f : StoreFault)
    → Shown meta_read_text [] (state g (record old { in_transaction = true })) mid rows
    → (may_come f ≡ true) ⊎ ((kind : List ℕ) (version n m : ℕ) → rows ≡ meta_cells kind version n m ∷ [] → migration_fault kind version ≡ Some f)
    → is_full f ≡ false → ((state g old).now.schema.tables ≡ [] → ⊥) → IsMigrationReason (state g old) f
row_says g old mid rows f shown (inl is) known tables = any_fault (state g old) f is
row_says g old mid rows f shown (inr says) known tables =
    let opened = shown_open meta_read_text [] (state g (record old { in_transaction = true })) mid rows shown in
    let said = λ (kind : List ℕ) (version : ℕ) (it : MetaSays (state g old) kind version). says kind version it.next_receipt it.next_document
    (row_shown g old mid rows shown kind version it) in
    record {
      not_full = known;
      of_earlier = λ layout s next r to.
          let some = said (codes "as2-station") (number_of layout) (says_of layout (state g old) s (r.stands opened)) in
          absurd (some_none f (sym some ∙ none_said layout s next to));
      of_row = λ kind version it. inr (said kind version it);
      of_blank = λ blank. absurd (tables (ap (λ (k : Schema). k.tables) (blank.no_table opened)));
    }
  where
    some_none : (f : StoreFault) → ◌≡◌ {A = Option StoreFault} (Some f) None → ⊥
    some_none f is = cc
