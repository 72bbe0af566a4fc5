-- What a migration leads to, and what it leaves to a crash.
use Rattle.std.proofs.Common.{◌≡◌, ◌∙◌, Bool, true, false, [], ◌∷◌, Some, refl, sym, ap, subst, inl, inr, IsTrue}
use Rattle.sqlite_trees.specs.Tree.{Trees}
use Rattle.sqlite_wal.specs.Recovery.{Image}
use Rattle.sqlite_schema.specs.declared.schema.Schema.{Schema}
use Rattle.sqlite.specs.Effect.{Database}
use Rattle.sqlite.specs.Files.{HoldsDatabase}
use Rattle.sqlite.specs.State.{State as Connected, HasCleanDisk}
use Rattle.as2_exchange.specs.Agreement.{Agreements}
use Rattle.as2_exchange.specs.Run.{AMigration, Trace, Run, migrated_state}
use Rattle.as2_exchange.specs.State.{State}
use Rattle.as2_store.specs.Calls.{KeepsNextTables, ReachesTables}
use Rattle.as2_store.specs.Migrating.{CommitsMigrated, RestsAs, migrated_from}
use Rattle.as2_store.specs.Stands.{Stands}
use Rattle.as2_store.specs.Tables.{Layout, VersionOne, VersionTwo, VersionThree, schema_of}
use Rattle.as2_station.proofs.ByHistory.{ends_by_history}
use Rattle.as2_restart.specs.Migrations.{AreBeforeOrMigrated, TriesMigration, migration_trace}
use Rattle.as2_restart.specs.Restarts.{LeadsToHeld, ComesTo, Counts, a_migration}

some_is : (s t : State) → Some s ≡ Some t → s ≡ t
some_is s t e = cc

-- what was told counts so, and leads there
comes_by : (A : Agreements) (told events : Trace) (s t : State) → Counts A told events → Run A s events t → ComesTo A told s t
comes_by A told events s t counts run = record { events = events; counts = counts; run = run; by_history = ends_by_history A s events t run }

-- ---- what it leads to

-- the mark alone leads to the state that is next
told_so : (A : Agreements) (layout : Layout) (d : Database) (s t : State) → Stands layout d s → migrated_from layout s ≡ Some t
    → ComesTo A (migration_trace layout s) s t
told_so A VersionOne d s t it is =
    comes_by A (AMigration s.next_in ∷ []) (AMigration s.next_in ∷ []) s t (inl refl) (it.version, refl, sym (some_is (migrated_state s) t is))
told_so A (VersionTwo way) d s t it is = comes_by A [] [] s t (inl refl) (sym (some_is s t is))
told_so A (VersionThree way) d s t it is = absurd cc

-- so it does where nothing was told
untold : (A : Agreements) (layout : Layout) (d : Database) (s t : State) → Stands layout d s → migrated_from layout s ≡ Some t → ComesTo A [] s t
untold A VersionOne d s t it is =
    comes_by A [] (AMigration s.next_in ∷ []) s t (inr (a_migration s.next_in)) (it.version, refl, sym (some_is (migrated_state s) t is))
untold A (VersionTwo way) d s t it is = comes_by A [] [] s t (inl refl) (sym (some_is s t is))
untold A (VersionThree way) d s t it is = absurd cc

pub leads : (A : Agreements) (layout : Layout) (old new : Connected) (s : State) → IsTrue old.is_open → RestsAs layout old s
    → ReachesTables new (migrated_from layout s) → LeadsToHeld A (migration_trace layout s) s new
leads A layout old new s opened rests it =
    (it.state, told_so A layout old.now s it.state (rests.stands opened) it.is, record { rests = it.rests; lasts = it.lasts })

-- ---- what it leaves

-- where it wasn't answered, the tables as they were
as_before : (A : Agreements) (layout : Layout) (old : Connected) (s : State) → IsTrue old.is_open → RestsAs layout old s → (image : Image) (db : Trees)
    → HoldsDatabase image db → db ≡ old.committed.trees → AreBeforeOrMigrated A false layout s image
as_before A layout old s opened rests image db held same =
    let stands = rests.stands opened in
    let whole : old.now ≡ record { schema = schema_of layout; trees = old.now.trees } =
    ap (λ (x : Schema). let d : Database = record { schema = x; trees = old.now.trees } in d) stands.schema in
    let is : db ≡ old.now.trees = same ∙ ap (λ (d : Database). d.trees) (rests.committed opened) in
    let there = subst (λ (d : Database). Stands layout d s) whole stands in
    record {
      state = s;
      comes = comes_by A [] [] s s (inl refl) refl;
      held = inr (
        refl,
        record {
          db = db;
          held = ∣ held ∣₁;
          stands = subst (λ (t : Trees). Stands layout (record { schema = schema_of layout; trees = t }) s) (sym is) there;
        },
      );
    }

-- or what was committed
as_committed : (A : Agreements) (layout : Layout) (old : Connected) (s : State) → IsTrue old.is_open → RestsAs layout old s → (image : Image) (db : Trees)
    → HoldsDatabase image db → CommitsMigrated old db → AreBeforeOrMigrated A false layout s image
as_committed A layout old s opened rests image db held it =
    let next : KeepsNextTables db (migrated_from layout s) = it.stands layout s rests in
    record { state = next.state; comes = untold A layout old.now s next.state (rests.stands opened) next.is; held = inl (db, ∣ held ∣₁, next.keeps) }

-- what a crash leaves of it
pub either : (A : Agreements) (is_answered : Bool) (layout : Layout) (old new : Connected) (s : State) → TriesMigration is_answered old new → HasCleanDisk new
    → IsTrue old.is_open → ((db : Trees) → old.may_leave db → db ≡ old.committed.trees) → RestsAs layout old s
    → (image : Image) (db : Trees) → HoldsDatabase image db → new.may_leave db → AreBeforeOrMigrated A is_answered layout s image
either A true layout old new s it clean opened settled rests image db held may =
    let reached = it.done refl clean layout s rests in
    record {
      state = reached.state;
      comes = told_so A layout old.now s reached.state (rests.stands opened) reached.is;
      held = inl (db, ∣ held ∣₁, reached.lasts.each db may);
    }
either A false layout old new s it clean opened settled rests image db held may = elim (it.crash.crash clean db may) [
  | inl before ↦ as_before A layout old s opened rests image db held (settled db before)
  | inr more ↦ as_committed A layout old s opened rests image db held more
]
