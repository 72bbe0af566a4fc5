-- `migrate`, exit by exit: the query failed (in-Err), there is no table (is_bare), the row says no (in-Err-told), a statement failed
-- (in-Err-move_tables), committed (in_default), the commit failed (the last two). Each refusal gives the connection back (`hands_back`) with its
-- reason; the one commit `migrates`: both of Moving.antt.
use Rattle.std.proofs.Common.{true, rules, ◌≡◌, ◌∙◌, ℕ, [], sym, ap, refl, subst, cond}
use Rattle.sqlite.specs.Held.{state}
use Rattle.sqlite.specs.Schema.{Schema}
use Rattle.sqlite.specs.State.{HasCleanDisk, Shown}
use Rattle.sql_tables.proofs.Inside.{shown_open}
use Rattle.as2_store.proofs.Statements.{meta_read_text}
use Rattle.as2_store.specs.Calls.{IsInside}
use Rattle.as2_store.specs.Migrating.{CommitsMigrated, Migrates}
use Rattle.as2_store.proofs.Committing.{inside_then}
use Rattle.as2_store.proofs.Querying.{queried_first}
use Rattle.as2_store.proofs.HandedBack.{hands_back, hands_back_uncommitted}
use Rattle.as2_store.proofs.Moving.{any_fault, migrates, moved_commits, moves_each, no_tables, row_says, says_in, unread_row, MovesEach, Tells}
use Rattle.as2_store.proofs.migrating.migrate.Given.{Over}
use Rattle.as2_store.proofs.migrating.migrate.Goals.{After-query_all, After-move_tables, After-commit}
use Rattle.as2_store.proofs.migrating.migrate.Goals as goal

-- the query ran, and nothing is committed
inside : (g : Over) (c : After-query_all g)
    → IsInside 0 (state g.S.Store (record c.args.conn.now { in_transaction = true })) (state g.S.Store c.query_all.new.self.conn.now)
inside g c =
    queried_first g.S.Store c.args.conn.now _ (λ rows. rows.items) meta_read_text [] (state g.S.Store c.query_all.new.self.conn.now) c.query_all.result
    c.transaction-tx.ensures.begun c.query_all.ensures.ok c.query_all.ensures.err c.query_all.ensures.survives

-- the statements ran too
moved : (g : Over) (c : After-move_tables g)
    → IsInside 0 (state g.S.Store (record c.args.conn.now { in_transaction = true })) (state g.S.Store c.move_tables.new.tx.conn.now)
moved g c = inside_then _ (state g.S.Store c.query_all.new.self.conn.now) (state g.S.Store c.move_tables.new.tx.conn.now)
    (inside g (goal.at.After-move_tables g c).After-query_all) c.move_tables.ensures.within

module _ (g : Over) (c : After-commit g) where
  -- the query showed the row
  shown : HasCleanDisk (state g.S.Store c.query_all.new.self.conn.now)
      → Shown meta_read_text [] (state g.S.Store (record c.args.conn.now { in_transaction = true })) (state g.S.Store c.query_all.new.self.conn.now)
      c.in-Ok.rows.items
  shown = rw c.transaction-tx.ensures.begun at c.in-Ok.ensures.ok

  abbrev version : ℕ
  version = cond c.in-Ok-told.earlier.is_first 1 2

  -- it tells what was read of it
  tells : Tells c.in-Ok.rows.items version c.in-Ok-told.earlier.next
  tells kind said n m is = c.in-Ok-told.ensures.told.1 kind said n m (c.deref.ensures.value ∙ is)

  -- and the statements took each state to the next one
  each : HasCleanDisk (state g.S.Store c.move_tables.new.tx.conn.now) → MovesEach g.S.Store c.args.conn.now (state g.S.Store c.move_tables.new.tx.conn.now)
  each = moves_each g.S.Store c.args.conn.now (state g.S.Store c.query_all.new.self.conn.now) (state g.S.Store c.move_tables.new.tx.conn.now)
      c.in-Ok.rows.items version c.in-Ok-told.earlier.next c.move_tables.ensures.within.clean shown tells c.in-Ok-move_tables.ensures.moved

pub returns-in-Err-clause-given_back : goal.returns-in-Err-clause-given_back
returns-in-Err-clause-given_back g c =
    hands_back g.S.Store c.args.conn.now (state g.S.Store c.query_all.new.self.conn.now) c.drop-tx.new.self.0 c.conn-1.given.0 (search rules)
    (CommitsMigrated (state g.S.Store c.args.conn.now)) (inside g (goal.at.returns-in-Err-clause-given_back g c).After-query_all)
    c.drop-tx.ensures.survives c.drop-tx.ensures.ended c.drop-tx.ensures.undone

pub returns-in-Err-clause-reason : goal.returns-in-Err-clause-reason
returns-in-Err-clause-reason g c clean =
    let mid = state g.S.Store c.query_all.new.self.conn.now in
    let was : HasCleanDisk mid = search rules in
    unread_row g.S.Store c.args.conn.now mid c.in-Err.error c.unread.result
    (rw c.transaction-tx.ensures.begun at (c.in-Err.ensures.err was)) c.unread.ensures.outside c.unread.ensures.known

pub returns-then-is_bare-clause-given_back : goal.returns-then-is_bare-clause-given_back
returns-then-is_bare-clause-given_back g c =
    hands_back g.S.Store c.args.conn.now (state g.S.Store c.query_all.new.self.conn.now) c.drop-tx-then-is_bare.new.self.0
    c.conn-then-is_bare-1.given.0 (search rules)
    (CommitsMigrated (state g.S.Store c.args.conn.now)) (inside g (goal.at.returns-then-is_bare-clause-given_back g c).After-query_all)
    c.drop-tx-then-is_bare.ensures.survives c.drop-tx-then-is_bare.ensures.ended c.drop-tx-then-is_bare.ensures.undone

pub returns-then-is_bare-clause-reason : goal.returns-then-is_bare-clause-reason
returns-then-is_bare-clause-reason g c clean =
    let mid = state g.S.Store c.query_all.new.self.conn.now in
    let was : HasCleanDisk mid = search rules in
    no_tables (state g.S.Store c.args.conn.now)
    (shown_open meta_read_text [] (state g.S.Store (record c.args.conn.now { in_transaction = true })) mid c.in-Ok.rows.items
    (rw c.transaction-tx.ensures.begun at (c.in-Ok.ensures.ok was)))
    (ap (λ (k : Schema). k.tables) (sym c.schema.ensures.value) ∙ c.if-is_bare.ensures.0 refl)

pub returns-in-Err-told-clause-given_back : goal.returns-in-Err-told-clause-given_back
returns-in-Err-told-clause-given_back g c =
    hands_back g.S.Store c.args.conn.now (state g.S.Store c.query_all.new.self.conn.now) c.drop-tx-in-Err-told.new.self.0
    c.conn-in-Err-told-1.given.0 (search rules)
    (CommitsMigrated (state g.S.Store c.args.conn.now)) (inside g (goal.at.returns-in-Err-told-clause-given_back g c).After-query_all)
    c.drop-tx-in-Err-told.ensures.survives c.drop-tx-in-Err-told.ensures.ended c.drop-tx-in-Err-told.ensures.undone

pub returns-in-Err-told-clause-reason : goal.returns-in-Err-told-clause-reason
returns-in-Err-told-clause-reason g c clean =
    let mid = state g.S.Store c.query_all.new.self.conn.now in
    let was : HasCleanDisk mid = search rules in
    row_says g.S.Store c.args.conn.now mid c.in-Ok.rows.items c.in-Err-told.fault (rw c.transaction-tx.ensures.begun at (c.in-Ok.ensures.ok was))
    (says_in c.deref.result.now c.in-Ok.rows.items c.in-Err-told.fault c.deref.ensures.value c.in-Err-told.ensures.fault)
    c.in-Err-told.ensures.not_full (λ none. let some = c.if-is_bare.ensures.1 (ap (λ (k : Schema). k.tables) c.schema.ensures.value ∙ none) in cc)

pub returns-in-Err-move_tables-clause-given_back : goal.returns-in-Err-move_tables-clause-given_back
returns-in-Err-move_tables-clause-given_back g c =
    hands_back g.S.Store c.args.conn.now (state g.S.Store c.move_tables.new.tx.conn.now) c.drop-tx-in-Err-move_tables.new.self.0
    c.conn-in-Err-move_tables-1.given.0 (search rules) (CommitsMigrated (state g.S.Store c.args.conn.now))
    (moved g (goal.at.returns-in-Err-move_tables-clause-given_back g c).After-move_tables)
    c.drop-tx-in-Err-move_tables.ensures.survives c.drop-tx-in-Err-move_tables.ensures.ended c.drop-tx-in-Err-move_tables.ensures.undone

pub returns-in_default-clause-migrated : goal.returns-in_default-clause-migrated
returns-in_default-clause-migrated g c =
    let at = (goal.at.returns-in_default-clause-migrated g c).After-commit in
    let old = c.args.conn.now in
    let mid = state g.S.Store c.query_all.new.self.conn.now in
    let last = state g.S.Store c.move_tables.new.tx.conn.now in
    let end = c.commit.new.self.0 in
    let same : end ≡ c.conn-2-1.given.0 = search rules in
    subst (λ h. Migrates (state g.S.Store old) (state g.S.Store h)) same
    (migrates g.S.Store old mid last end c.in-Ok.rows.items (version g at) c.in-Ok-told.earlier.next (moved g (goal.at.After-commit g at).After-move_tables)
    c.commit.ensures.survives c.move_tables.ensures.within.clean (shown g at) (tells g at)
    (λ none. let some = c.if-is_bare.ensures.1 (ap (λ (k : Schema). k.tables) c.schema.ensures.value ∙ none) in cc) (each g at)
    (λ late. (c.in_default.ensures.ok late).1) (λ db opened may. g.met.S.Store.settled end.store db opened may))

pub returns-clause-given_back : goal.returns-clause-given_back
returns-clause-given_back g c =
    let at = (goal.at.returns-clause-given_back g c).After-commit in
    hands_back_uncommitted g.S.Store c.args.conn.now (state g.S.Store c.move_tables.new.tx.conn.now) c.commit.new.self.0 c.conn-2-1.given.0 (search rules)
    (CommitsMigrated (state g.S.Store c.args.conn.now)) (moved g (goal.at.After-commit g at).After-move_tables) _ c.commit.ensures.survives
    (λ clean. moved_commits g.S.Store c.args.conn.now (state g.S.Store c.move_tables.new.tx.conn.now) (each g at clean)) c.commit.ensures.ended
    c.in-Ok-move_tables.ensures.inside c.in-Err-commit.ensures.err

pub returns-in-Err-move_tables-clause-reason : goal.returns-in-Err-move_tables-clause-reason
returns-in-Err-move_tables-clause-reason g c clean = any_fault _ _ c.fault_of.ensures.may_come

pub returns-clause-reason : goal.returns-clause-reason
returns-clause-reason g c clean = any_fault _ _ c.fault_of-2.ensures.may_come
