-- `make`, exit by exit: the tables can't be made, the first row can't be put in, the commit failed, committed. Each failure gives the connection back
-- (`hands_back`, of HandedBack.antt); what is made is `made_first` and `creates` (CreatedTables.antt).
use Rattle.std.proofs.Common.{true, rules, ◌≡◌, subst}
use Rattle.sqlite.specs.Held.{state}
use Rattle.sqlite.specs.State.{HasCleanDisk}
use Rattle.as2_store.specs.Calls.{IsInside, Creates, CommitsFirst}
use Rattle.as2_store.proofs.TransactionEnds.{if_error}
use Rattle.as2_store.proofs.Committing.{inside_then}
use Rattle.as2_store.proofs.HandedBack.{hands_back, hands_back_uncommitted}
use Rattle.as2_store.proofs.CreatedTables.{made_first, first_commits, creates, MakesFirst}
use Rattle.as2_store.proofs.creating.make.Given.{Over}
use Rattle.as2_store.proofs.creating.make.Goals.{After-make_tables, After-put_first, After-commit}
use Rattle.as2_store.proofs.creating.make.Goals as goal

-- the tables are made, and nothing is committed
first : (g : Over) (c : After-make_tables g)
    → IsInside 0 (state g.S.Store (record c.args.conn.now { in_transaction = true })) (state g.S.Store c.make_tables.new.tx.conn.now)
first g c = rw c.transaction-tx.ensures.begun at c.make_tables.ensures.within

-- and the rows put in
inside : (g : Over) (c : After-put_first g)
    → IsInside 0 (state g.S.Store (record c.args.conn.now { in_transaction = true })) (state g.S.Store c.put_first.new.tx.conn.now)
inside g c = inside_then _ (state g.S.Store c.make_tables.new.tx.conn.now) (state g.S.Store c.put_first.new.tx.conn.now)
    (first g (goal.at.After-put_first g c).After-make_tables) c.put_first.ensures.within

-- the store is made
makes : (g : Over) (c : After-commit g) → HasCleanDisk (state g.S.Store c.put_first.new.tx.conn.now)
    → MakesFirst g.S.Store c.args.conn.now (state g.S.Store c.put_first.new.tx.conn.now) c.args.first
makes g c =
    made_first g.S.Store c.args.conn.now (state g.S.Store c.make_tables.new.tx.conn.now) (state g.S.Store c.put_first.new.tx.conn.now) c.args.first
    c.put_first.ensures.within.clean (rw c.transaction-tx.ensures.begun at c.in_ok-make_tables.ensures.open)
    (rw c.transaction-tx.ensures.begun at c.in_ok-make_tables.ensures.made) c.in_ok-put_first.ensures.put

pub returns-in_err-make_tables-clause-given_back : goal.returns-in_err-make_tables-clause-given_back
returns-in_err-make_tables-clause-given_back g c =
    if_error
    (hands_back g.S.Store c.args.conn.now (state g.S.Store c.make_tables.new.tx.conn.now) c.drop-tx.new.self.0 c.conn-1.given.0 (search rules)
    (CommitsFirst c.args.first (state g.S.Store c.args.conn.now)) (first g (goal.at.returns-in_err-make_tables-clause-given_back g c).After-make_tables)
    c.drop-tx.ensures.survives c.drop-tx.ensures.ended c.drop-tx.ensures.undone) c.from_residual.result

pub returns-in_err-put_first-clause-given_back : goal.returns-in_err-put_first-clause-given_back
returns-in_err-put_first-clause-given_back g c =
    if_error
    (hands_back g.S.Store c.args.conn.now (state g.S.Store c.put_first.new.tx.conn.now) c.drop-tx-in_err-put_first.new.self.0
    c.conn-in_err-put_first-1.given.0 (search rules) (CommitsFirst c.args.first (state g.S.Store c.args.conn.now))
    (inside g (goal.at.returns-in_err-put_first-clause-given_back g c).After-put_first) c.drop-tx-in_err-put_first.ensures.survives
    c.drop-tx-in_err-put_first.ensures.ended c.drop-tx-in_err-put_first.ensures.undone) c.from_residual-in_err-put_first.result

pub returns-in_err-commit-clause-given_back : goal.returns-in_err-commit-clause-given_back
returns-in_err-commit-clause-given_back g c =
    let at = (goal.at.returns-in_err-commit-clause-given_back g c).After-commit in
    let last = state g.S.Store c.put_first.new.tx.conn.now in
    if_error
    (hands_back_uncommitted g.S.Store c.args.conn.now last c.commit.new.self.0 c.conn-2-1.given.0 (search rules)
    (CommitsFirst c.args.first (state g.S.Store c.args.conn.now)) (inside g (goal.at.After-commit g at).After-put_first) _ c.commit.ensures.survives
    (λ clean. first_commits g.S.Store c.args.conn.now last c.args.first (makes g at clean)) c.commit.ensures.ended
    c.in_ok-put_first.ensures.inside c.in_err-commit.ensures.err) c.from_residual-in_err-commit.result

pub returns-clause-created : goal.returns-clause-created
returns-clause-created g c =
    let at = (goal.at.returns-clause-created g c).After-commit in
    let old = c.args.conn.now in
    let end = c.commit.new.self.0 in
    let same : end ≡ c.conn-2-1.given.0 = search rules in
    subst (λ h. Creates c.args.first (state g.S.Store old) (state g.S.Store h)) same
    (creates g.S.Store old (state g.S.Store c.put_first.new.tx.conn.now) end c.args.first (inside g (goal.at.After-commit g at).After-put_first)
    c.commit.ensures.survives (makes g at) (λ late. (c.in_ok-commit.ensures.ok late).1)
    (λ db opened may. g.met.S.Store.settled end.store db opened may))
