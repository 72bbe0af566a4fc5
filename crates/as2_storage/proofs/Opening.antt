-- What a connection that has opened on the files of a store stands for, and the files of one that has closed.
use Rattle.std.proofs.Common.{◌≡◌, IsTrue, sym, ap, subst, ◌∙◌}
use Rattle.std.proofs.Math.Logic.{∥∥₁_elim}
use Rattle.sqlite_disk.specs.declared.Disk as disk
use Rattle.sqlite_disk.specs.declared.Files.{Files}
use Rattle.sqlite_wal.specs.Recovery.{Image}
use Rattle.sqlite_store.specs.declared.store.FileStore.{FileStore}
use Rattle.sqlite_trees.specs.Props.{Trees-set}
use Rattle.sqlite_trees.specs.Tree.{Trees}
use Rattle.sqlite_trees.specs.Objects.{catalog_tree}
use Rattle.sqlite_schema.specs.declared.schema.Schema.{Schema}
use Rattle.sqlite_catalog.proofs.ReadLemmas.{lists_once}
use Rattle.sqlite.specs.Effect.{Database}
use Rattle.sqlite.specs.State.{State as Connected, Opens, IsLive}
use Rattle.sqlite.specs.Held.{Held}
use Rattle.sqlite.specs.Closing.{IsCopied}
use Rattle.sqlite.specs.Files.{file_state, HoldsDatabase}
use Rattle.as2_exchange.specs.State.{State, known_digests}
use Rattle.as2_store.specs.Calls.{Keeps}
use Rattle.as2_store.specs.Files.{HoldsState}
use Rattle.as2_store.specs.Migrating.{RestsAs}
use Rattle.as2_store.specs.Stands.{IsWhole, Rests, Stands}
use Rattle.as2_store.specs.Tables.{Layout, VersionThree, schema_of}
use Rattle.as2_store.proofs.Committing.{keeps_of}
use Rattle.as2_storage.specs.Files.{AreClosed, HoldsAs, IsSettledFrom}

-- ---- an open

-- trees that stand for a state, with the tables that they list, are the whole of what a new connection shows, whatever their version
pub rests_as : (layout : Layout) (new : Connected) (s : State) → Opens new → IsLive new
    → Stands layout (record { schema = schema_of layout; trees = new.committed.trees }) s → RestsAs layout new s
unfolding IsWhole
rests_as layout new s opens live it =
    let schema : new.committed.schema ≡ schema_of layout =
    lists_once (new.committed.trees catalog_tree) new.committed.schema (schema_of layout) (live opens.is_open).1.lists it.sound.lists in
    let again : new.committed ≡ record { schema = schema_of layout; trees = new.committed.trees } =
    ap (λ (x : Schema). let d : Database = record { schema = x; trees = new.committed.trees } in d) schema in
    record {
      autocommit = opens.autocommit;
      stands = λ _. subst (λ (d : Database). Stands layout d s) (sym (opens.clean ∙ again)) it;
      committed = λ _. sym opens.clean;
    }

rests_kept : (new : Connected) (s : State) → Opens new → IsLive new → Keeps new.committed.trees s → Rests new s
rests_kept new s opens live it =
    let r = rests_as (VersionThree it.way) new s opens live it.stands in
    record {
      autocommit = r.autocommit;
      stands = λ opened. record { way = it.way; stands = r.stands opened };
      committed = r.committed;
      knows = ap known_digests it.stands.version.version_is;
    }

-- a connection that has just opened on what the files held
pub rests_held : (new : Connected) (image : Image) (s : State) → Opens new → IsLive new → ((db : Trees) → HoldsDatabase image db → new.committed.trees ≡ db)
    → HoldsState image s → Rests new s
rests_held new image s opens live found held =
    let same : new.committed.trees ≡ held.0 = ∥∥₁_elim held.1 (Trees-set _ _) (found held.0) in
    rests_kept new s opens live (subst (λ (db : Trees). Keeps db s) (sym same) held.2)

-- and on what they held in tables of any version
pub rests_held_as : (layout : Layout) (new : Connected) (image : Image) (s : State) → Opens new → IsLive new
    → ((db : Trees) → HoldsDatabase image db → new.committed.trees ≡ db) → HoldsAs layout image s → RestsAs layout new s
rests_held_as layout new image s opens live found it =
    let same : new.committed.trees ≡ it.db = ∥∥₁_elim it.held (Trees-set _ _) (found it.db) in
    rests_as layout new s opens live (subst (λ (db : Trees). Stands layout (record { schema = schema_of layout; trees = db }) s) (sym same) it.stands)

-- ---- a close

-- what is committed over an open connection stands for its state
pub kept : (c : Connected) (s : State) → IsTrue c.is_open → Rests c s → Keeps c.committed.trees s
kept c s opened r = subst (λ (d : Database). Keeps d.trees s) (sym (r.committed opened)) (keeps_of c.now s (r.stands opened))

pub closed : {D : Type 0} {g : disk.Ghosts D} (c : Held (FileStore D g)) (files : Files D) (s : State) → IsCopied c files → Rests (file_state c) s
    → AreClosed g files s
closed c files s it r =
    let keeps = kept (file_state c) s it.was_open r in
    let trees = (file_state c).committed.trees in
    record {
      seen = record { both = (trees, it.seen.both, keeps); alone = (trees, it.seen.alone, keeps) };
      left = λ image may. let found = it.left image may in record { both = (trees, found.both, keeps); alone = (trees, found.alone, keeps) };
    }

-- ---- a store whose log was copied into its file

module _ {D : Type 0} {g : disk.Ghosts D} (before after : Held (FileStore D g)) (it : IsSettledFrom g before after) where
  same_trees : (file_state after).committed.trees ≡ (file_state before).committed.trees
  same_trees = ∥∥₁_elim it.copied.seen.both (Trees-set _ _) (it.finds.holds (file_state before).committed.trees)

  module _ (opens : Opens (file_state after)) (live : IsLive (file_state after)) where
    pub settled_rests : (s : State) → Rests (file_state before) s → Rests (file_state after) s
    settled_rests s r =
        let keeps = kept (file_state before) s it.copied.was_open r in
        rests_kept (file_state after) s opens live (subst (λ (db : Trees). Keeps db s) (sym same_trees) keeps)

    pub settled_as : (layout : Layout) (s : State) → RestsAs layout (file_state before) s → RestsAs layout (file_state after) s
    settled_as layout s r =
        let stood = r.stands it.copied.was_open in
        let d = (file_state before).now in
        let whole : d ≡ record { schema = schema_of layout; trees = d.trees } =
        ap (λ (x : Schema). let e : Database = record { schema = x; trees = d.trees } in e) stood.schema in
        let trees : d.trees ≡ (file_state after).committed.trees =
        sym (same_trees ∙ ap (λ (e : Database). e.trees) (r.committed it.copied.was_open)) in
        rests_as layout (file_state after) s opens live
        (subst (λ (t : Trees). Stands layout (record { schema = schema_of layout; trees = t }) s) trees
        (subst (λ (e : Database). Stands layout e s) whole stood))
