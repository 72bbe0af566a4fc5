-- `query_alone`, exit by exit: the query failed, the commit failed, committed. A read is a write of the same state (`as_read`); the ends of a call are
-- lemmas of Committing.antt.
use Rattle.std.proofs.Common.{true, rules, ◌≡◌, refl, sym, subst, arith, Ok, Some, IsTrue}
use Rattle.std.proofs.lemmas.Result.{IfOk-from_err}
use Rattle.sqlite.specs.Held.{state}
use Rattle.sqlite.specs.Values.{bound}
use Rattle.sqlite.specs.State.{HasCleanDisk, Shown}
use Rattle.as2_store.specs.Calls.{IsInside}
use Rattle.as2_store.proofs.Committing.{committed, dropped, uncommitted, FollowsEach}
use Rattle.as2_store.proofs.Querying.{queried_first, query_keeps, answers, as_read}
use Rattle.sql_tables.proofs.Asking.{shown_stays}
use Rattle.as2_store.proofs.reading.query_alone.Given.{Over}
use Rattle.as2_store.proofs.reading.query_alone.Goals.{After-query_all, After-commit}
use Rattle.as2_store.proofs.reading.query_alone.Goals as goal

-- the query ran, and nothing is committed
inside : (g : Over) (c : After-query_all g)
    → IsInside 0 (state g.S.Store (record c.args.conn.now { in_transaction = true })) (state g.S.Store c.query_all.new.self.conn.now)
inside g c =
    queried_first g.S.Store c.args.conn.now _ (λ rows. rows.items) c.args.sql.now (bound c.args.params.now) (state g.S.Store c.query_all.new.self.conn.now)
    c.query_all.result c.transaction-tx.ensures.begun c.query_all.ensures.ok c.query_all.ensures.err c.query_all.ensures.survives

module _ (g : Over) (c : After-commit g) where
  -- it showed the rows
  shown : HasCleanDisk (state g.S.Store c.query_all.new.self.conn.now)
      → Shown c.args.sql.now (bound c.args.params.now) (state g.S.Store (record c.args.conn.now { in_transaction = true }))
      (state g.S.Store c.query_all.new.self.conn.now) c.in_ok-rows.rows.items
  shown = rw c.transaction-tx.ensures.begun at c.in_ok-rows.ensures.ok

  -- the transaction goes on
  stays : HasCleanDisk (state g.S.Store c.query_all.new.self.conn.now) → IsTrue (state g.S.Store c.query_all.new.self.conn.now).in_transaction
  stays clean = shown_stays c.args.sql.now (bound c.args.params.now) (state g.S.Store (record c.args.conn.now { in_transaction = true }))
      (state g.S.Store c.query_all.new.self.conn.now) c.in_ok-rows.rows.items refl (shown clean)

  -- and the state is left
  keeps : HasCleanDisk (state g.S.Store c.query_all.new.self.conn.now)
      → FollowsEach g.S.Store c.args.conn.now (state g.S.Store c.query_all.new.self.conn.now) Some
  keeps = query_keeps g.S.Store c.args.conn.now (state g.S.Store c.query_all.new.self.conn.now) c.args.sql.now (bound c.args.params.now)
      c.in_ok-rows.rows.items c.requires.plain shown

pub returns-in_err-rows-clause-shown : goal.returns-in_err-rows-clause-shown
returns-in_err-rows-clause-shown g c =
    as_read _ (state g.S.Store c.args.conn.now) (state g.S.Store c.conn-1.given.0) c.from_residual.result
    (dropped g.S.Store c.args.conn.now (state g.S.Store c.query_all.new.self.conn.now) c.drop-tx.new.self.0 c.conn-1.given.0 (search rules) Some
    (inside g (goal.at.returns-in_err-rows-clause-shown g c).After-query_all) c.from_residual.result c.from_residual.ensures.0
    c.drop-tx.ensures.survives c.drop-tx.ensures.undone)
    (λ late. IfOk-from_err c.from_residual.result _ c.from_residual.ensures.0)

pub returns-in_err-commit-clause-shown : goal.returns-in_err-commit-clause-shown
returns-in_err-commit-clause-shown g c =
    let at = (goal.at.returns-in_err-commit-clause-shown g c).After-commit in
    as_read _ (state g.S.Store c.args.conn.now) (state g.S.Store c.conn-2-1.given.0) c.from_residual-in_err-commit.result
    (uncommitted g.S.Store c.args.conn.now (state g.S.Store c.query_all.new.self.conn.now) c.commit.new.self.0 c.conn-2-1.given.0 (search rules) Some
    (inside g (goal.at.After-commit g at).After-query_all) c.from_residual-in_err-commit.result _ c.from_residual-in_err-commit.ensures.0
    c.commit.ensures.survives (keeps g at) (stays g at) c.in_err-commit.ensures.err)
    (λ late. IfOk-from_err c.from_residual-in_err-commit.result _ c.from_residual-in_err-commit.ensures.0)

pub returns-clause-shown : goal.returns-clause-shown
returns-clause-shown g c =
    let at = (goal.at.returns-clause-shown g c).After-commit in
    let mid = state g.S.Store c.query_all.new.self.conn.now in
    let same : c.commit.new.self.0 ≡ c.conn-2-1.given.0 = search rules in
    let was : HasCleanDisk (state g.S.Store c.conn-2-1.given.0) → HasCleanDisk mid =
    λ late. omega (arith, c.commit.ensures.survives.clean, subst (λ h. HasCleanDisk (state g.S.Store h)) (sym same) late) in
    as_read _ (state g.S.Store c.args.conn.now) (state g.S.Store c.conn-2-1.given.0) (Ok c.in_ok-rows.rows)
    (committed g.S.Store c.args.conn.now mid c.commit.new.self.0 c.conn-2-1.given.0 same Some (inside g (goal.at.After-commit g at).After-query_all)
    c.in_ok-rows.rows c.commit.ensures.survives (keeps g at) (λ late. (c.in_ok-commit.ensures.ok late).1)
    (λ db opened may. g.met.S.Store.settled c.commit.new.self.0.store db opened may))
    (λ late. answers g.S.Store c.args.conn.now mid c.args.sql.now (bound c.args.params.now) c.in_ok-rows.rows.items c.requires.plain (shown g at (was late)))
