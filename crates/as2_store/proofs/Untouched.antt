-- Which tables a statement over one of them leaves as they were, however the tables came about.
use Rattle.std.proofs.Common.{◌≡◌, ◌≢◌, ◌≤◌, ◌∙◌, ℕ, List, [], ◌∷◌, get_or, Bool, true, false, true≢false, refl, sym, ap, arith}
use Rattle.std.specs.List.{AllByRecursion}
use Rattle.sqlite.specs.Tree.{Trees}
use Rattle.sqlite.specs.Effect.{Database}
use Rattle.sqlite.specs.Order.{Row}
use Rattle.sql_tables.proofs.Sorting.{unchanged}
use Rattle.as2_exchange.specs.State.{State, Version}
use Rattle.as2_exchange.specs.declared.outbox.OutEntry.{OutEntry}
use Rattle.as2_store.specs.Tables.{Way, Fresh, Migrated, Layout, VersionThree, inbox_at, inbox_piece_at, store_schema, meta_tree, inbox_tree, inbox_piece_tree, outbox_tree, outbox_piece_tree, evidence_tree, waiting_tree, origin_tree, resent_tree, emptied_tables, first_inbox_tree, first_piece_tree}
use Rattle.as2_store.specs.Stands.{HasEntries, HasOrigin, HasResent, AreEmptied}

-- ---- the tables by name

pub data Part : Type 0 where
  AtMeta : Part
  AtInbox : Part
  AtInboxPiece : Part
  AtOutbox : Part
  AtOutboxPiece : Part
  AtEvidence : Part
  AtWaiting : Part
  AtOrigin : Part
  AtResent : Part

abbrev pub tree_of : Way → Part → ℕ
tree_of way AtMeta = meta_tree
tree_of way AtInbox = inbox_tree way
tree_of way AtInboxPiece = inbox_piece_tree way
tree_of way AtOutbox = outbox_tree
tree_of way AtOutboxPiece = outbox_piece_tree
tree_of way AtEvidence = evidence_tree
tree_of way AtWaiting = waiting_tree
tree_of way AtOrigin = origin_tree way
tree_of way AtResent = resent_tree way

abbrev pub code : Part → ℕ
code AtMeta = 0
code AtInbox = 1
code AtInboxPiece = 2
code AtOutbox = 3
code AtOutboxPiece = 4
code AtEvidence = 5
code AtWaiting = 6
code AtOrigin = 7
code AtResent = 8

-- the code of the table that has this tree
abbrev by_tree : Way → ℕ → ℕ
by_tree Fresh tree = get_or (0 ∷ 1 ∷ 9 ∷ 2 ∷ 9 ∷ 3 ∷ 9 ∷ 4 ∷ 9 ∷ 5 ∷ 6 ∷ 9 ∷ 9 ∷ 7 ∷ 8 ∷ []) tree 9
by_tree Migrated tree = get_or (0 ∷ 9 ∷ 9 ∷ 9 ∷ 9 ∷ 3 ∷ 9 ∷ 4 ∷ 9 ∷ 5 ∷ 6 ∷ 9 ∷ 9 ∷ 1 ∷ 9 ∷ 2 ∷ 9 ∷ 7 ∷ 8 ∷ []) tree 9

back : (way : Way) (p : Part) → by_tree way (tree_of way p) ≡ code p
back Fresh AtMeta = refl
back Fresh AtInbox = refl
back Fresh AtInboxPiece = refl
back Fresh AtOutbox = refl
back Fresh AtOutboxPiece = refl
back Fresh AtEvidence = refl
back Fresh AtWaiting = refl
back Fresh AtOrigin = refl
back Fresh AtResent = refl
back Migrated AtMeta = refl
back Migrated AtInbox = refl
back Migrated AtInboxPiece = refl
back Migrated AtOutbox = refl
back Migrated AtOutboxPiece = refl
back Migrated AtEvidence = refl
back Migrated AtWaiting = refl
back Migrated AtOrigin = refl
back Migrated AtResent = refl

other_tree : (way : Way) (p q : Part) → code q ≢ code p → tree_of way q ≢ tree_of way p
other_tree way p q other same = other (sym (back way q) ∙ ap (by_tree way) same ∙ back way p)

-- an emptied table is none of these
abbrev is_emptied : ℕ → Bool
is_emptied tree = get_or (false ∷ true ∷ false ∷ true ∷ []) tree false

not_emptied : (p : Part) → is_emptied (tree_of Migrated p) ≡ false
not_emptied AtMeta = refl
not_emptied AtInbox = refl
not_emptied AtInboxPiece = refl
not_emptied AtOutbox = refl
not_emptied AtOutboxPiece = refl
not_emptied AtEvidence = refl
not_emptied AtWaiting = refl
not_emptied AtOrigin = refl
not_emptied AtResent = refl

-- ---- what a statement leaves

-- the tables with another tree are as they were
abbrev pub Others : Way → ℕ → Trees → Trees → Type 0
Others way tree old new = AllByRecursion (λ t. t.tree ≢ tree → new t.tree ≡ old t.tree) (store_schema way).tables

-- those of another name are
abbrev pub Keeping : Way → Part → Trees → Trees → Type 0
Keeping way p old new = (q : Part) → code q ≢ code p → new (tree_of way q) ≡ old (tree_of way q)

pub keeping : (way : Way) (p : Part) (old new : Trees) → Others way (tree_of way p) old new → Keeping way p old new
keeping Fresh p old new all AtMeta other = all.0 (other_tree Fresh p AtMeta other)
keeping Fresh p old new all AtInbox other = all.1.0 (other_tree Fresh p AtInbox other)
keeping Fresh p old new all AtInboxPiece other = all.1.1.0 (other_tree Fresh p AtInboxPiece other)
keeping Fresh p old new all AtOutbox other = all.1.1.1.0 (other_tree Fresh p AtOutbox other)
keeping Fresh p old new all AtOutboxPiece other = all.1.1.1.1.0 (other_tree Fresh p AtOutboxPiece other)
keeping Fresh p old new all AtEvidence other = all.1.1.1.1.1.0 (other_tree Fresh p AtEvidence other)
keeping Fresh p old new all AtWaiting other = all.1.1.1.1.1.1.0 (other_tree Fresh p AtWaiting other)
keeping Fresh p old new all AtOrigin other = all.1.1.1.1.1.1.1.0 (other_tree Fresh p AtOrigin other)
keeping Fresh p old new all AtResent other = all.1.1.1.1.1.1.1.1.0 (other_tree Fresh p AtResent other)
keeping Migrated p old new all AtMeta other = all.0 (other_tree Migrated p AtMeta other)
keeping Migrated p old new all AtInbox other = all.1.1.1.1.1.1.1.0 (other_tree Migrated p AtInbox other)
keeping Migrated p old new all AtInboxPiece other = all.1.1.1.1.1.1.1.1.0 (other_tree Migrated p AtInboxPiece other)
keeping Migrated p old new all AtOutbox other = all.1.1.1.0 (other_tree Migrated p AtOutbox other)
keeping Migrated p old new all AtOutboxPiece other = all.1.1.1.1.0 (other_tree Migrated p AtOutboxPiece other)
keeping Migrated p old new all AtEvidence other = all.1.1.1.1.1.0 (other_tree Migrated p AtEvidence other)
keeping Migrated p old new all AtWaiting other = all.1.1.1.1.1.1.0 (other_tree Migrated p AtWaiting other)
keeping Migrated p old new all AtOrigin other = all.1.1.1.1.1.1.1.1.1.0 (other_tree Migrated p AtOrigin other)
keeping Migrated p old new all AtResent other = all.1.1.1.1.1.1.1.1.1.1.0 (other_tree Migrated p AtResent other)

-- emptied tables stay so
pub still_emptied : (way : Way) (p : Part) (old new : Database) → Others way (tree_of way p) old.trees new.trees → AreEmptied (emptied_tables way) old
    → AreEmptied (emptied_tables way) new
still_emptied Fresh p old new all left = tt
still_emptied Migrated p old new all left =
    let apart : (tree : ℕ) → is_emptied tree ≡ true → tree ≢ tree_of Migrated p = λ tree was same. true≢false (sym was ∙ ap is_emptied same ∙ not_emptied p) in
    (all.1.0 (apart first_inbox_tree refl) ∙ left.0, (all.1.1.0 (apart first_piece_tree refl) ∙ left.1.0, tt))

pub same_emptied : (way : Way) (old new : Database) → new ≡ old → AreEmptied (emptied_tables way) old → AreEmptied (emptied_tables way) new
same_emptied Fresh old new same left = tt
same_emptied Migrated old new same left =
    (ap (λ (d : Database). d.trees first_inbox_tree) same ∙ left.0, (ap (λ (d : Database). d.trees first_piece_tree) same ∙ left.1.0, tt))

-- ---- what later versions keep beside

pub still_origin : {rows new : List Row} {version : Version} → new ≡ rows → HasOrigin rows version → HasOrigin new version
still_origin same it = record { number = it.number; rows_are = same ∙ it.rows_are; version_is = it.version_is }

pub still_resent : {rows new : List Row} {outbox : List OutEntry} → new ≡ rows → HasResent rows outbox → HasResent new outbox
still_resent same it = record { was = it.was; rows_are = same ∙ it.rows_are; begun = it.begun }

-- ---- the entries

-- they are in trees with the same rows, of tables of another version too
pub still_entries : (was layout : Layout) (old new : Database) (s : State) → new.trees (inbox_at layout) ≡ old.trees (inbox_at was)
    → new.trees (inbox_piece_at layout) ≡ old.trees (inbox_piece_at was) → new.trees outbox_tree ≡ old.trees outbox_tree
    → new.trees outbox_piece_tree ≡ old.trees outbox_piece_tree → new.trees evidence_tree ≡ old.trees evidence_tree
    → new.trees waiting_tree ≡ old.trees waiting_tree → HasEntries was old s → HasEntries layout new s
still_entries was layout old new s inbox inbox_piece outbox outbox_piece evidence waits has = record {
  inbox = inbox ∙ has.inbox;
  inbox_contents = unchanged inbox_piece has.inbox_contents;
  outbox = outbox ∙ has.outbox;
  outbox_contents = unchanged outbox_piece has.outbox_contents;
  evidence = evidence ∙ has.evidence;
  waits = waits ∙ has.waits;
}

-- a statement over a table that isn't one of theirs leaves them
pub entries_kept : (way : Way) (p : Part) (old new : Database) (s : State) → ((n : ℕ) → 1 ≤ n → n ≤ 6 → n ≢ code p)
    → Others way (tree_of way p) old.trees new.trees → HasEntries (VersionThree way) old s → HasEntries (VersionThree way) new s
entries_kept way p old new s apart others has =
    let k = keeping way p old.trees new.trees others in
    still_entries (VersionThree way) (VersionThree way) old new s (k AtInbox (apart 1 (omega arith) (omega arith)))
    (k AtInboxPiece (apart 2 (omega arith) (omega arith))) (k AtOutbox (apart 3 (omega arith) (omega arith)))
    (k AtOutboxPiece (apart 4 (omega arith) (omega arith))) (k AtEvidence (apart 5 (omega arith) (omega arith)))
    (k AtWaiting (apart 6 (omega arith) (omega arith))) has
