-- `check`, exit by exit: the query failed (in-Err), there is no table (is_bare), the row says no (in-Some), committed (in_default-commit), the
-- commit failed (the last two). Each refusal gives the connection back (`hands_back`) with its reason (`unread_by`, `bare_by`, `said_by`,
-- `comes`); the one commit `adopts`. These are of HandedBack.antt, but `commits` of Committing.antt and `query_keeps` of Querying.antt.
-- Another query, or another column of `meta`: `meta_read_text` in Statements.antt, `meta_..` in Texts.antt, `meta_cells` in MetaRow.antt.
-- Another refusal: a pair of `given_back` and `reason` here, and its reason in HandedBack.antt.
use Rattle.std.proofs.Common.{true, rules, ◌≡◌, ◌∙◌, ℕ, [], sym, ap, refl, subst, arith, Some, IsTrue}
use Rattle.sqlite.specs.Held.{state}
use Rattle.sqlite.specs.Schema.{Schema}
use Rattle.sqlite.specs.State.{HasCleanDisk, Shown}
use Rattle.sqlite.specs.declared.error.Error.{Error}
use Rattle.sql_tables.proofs.Inside.{shown_open}
use Rattle.sql_tables.proofs.Asking.{shown_stays}
use Rattle.as2_store.proofs.Statements.{meta_read_text}
use Rattle.as2_store.specs.Calls.{Adopts, CommitsTables, IsInside}
use Rattle.as2_store.proofs.Committing.{commits, committed_next, FollowsEach}
use Rattle.as2_store.proofs.Querying.{queried_first, query_keeps}
use Rattle.as2_store.proofs.HandedBack.{hands_back, hands_back_uncommitted, unread_by, bare_by, said_by, adopts, comes}
use Rattle.as2_store.proofs.Texts.{meta_read_plain}
use Rattle.as2_store.proofs.adopting.check.Given.{Over}
use Rattle.as2_store.proofs.adopting.check.Goals.{After-query_all, After-commit}
use Rattle.as2_store.proofs.adopting.check.Goals as goal

-- the query ran, and nothing is committed
inside : (g : Over) (c : After-query_all g)
    → IsInside 0 (state g.S.Store (record c.args.conn.now { in_transaction = true })) (state g.S.Store c.query_all.new.self.conn.now)
inside g c =
    queried_first g.S.Store c.args.conn.now _ (λ rows. rows.items) meta_read_text [] (state g.S.Store c.query_all.new.self.conn.now) c.query_all.result
    c.transaction-tx.ensures.begun c.query_all.ensures.ok c.query_all.ensures.err c.query_all.ensures.survives

module _ (g : Over) (c : After-commit g) where
  -- it showed the row
  shown : HasCleanDisk (state g.S.Store c.query_all.new.self.conn.now)
      → Shown meta_read_text [] (state g.S.Store (record c.args.conn.now { in_transaction = true })) (state g.S.Store c.query_all.new.self.conn.now)
      c.in-Ok.rows.items
  shown = rw c.transaction-tx.ensures.begun at c.in-Ok.ensures.ok

  -- the transaction goes on
  stays : HasCleanDisk (state g.S.Store c.query_all.new.self.conn.now) → IsTrue (state g.S.Store c.query_all.new.self.conn.now).in_transaction
  stays clean = shown_stays meta_read_text [] (state g.S.Store (record c.args.conn.now { in_transaction = true }))
      (state g.S.Store c.query_all.new.self.conn.now) c.in-Ok.rows.items refl (shown clean)

  -- and the tables stand for the same state (`Some`: the next state is the old one)
  keeps : HasCleanDisk (state g.S.Store c.query_all.new.self.conn.now)
      → FollowsEach g.S.Store c.args.conn.now (state g.S.Store c.query_all.new.self.conn.now) Some
  keeps = query_keeps g.S.Store c.args.conn.now (state g.S.Store c.query_all.new.self.conn.now) meta_read_text [] c.in-Ok.rows.items
      (λ way. meta_read_plain _ _) shown

pub returns-in-Err-clause-given_back : goal.returns-in-Err-clause-given_back
returns-in-Err-clause-given_back g c =
    hands_back g.S.Store c.args.conn.now (state g.S.Store c.query_all.new.self.conn.now) c.drop-tx.new.self.0 c.conn-1.given.0 (search rules)
    (CommitsTables Some (state g.S.Store c.args.conn.now)) (inside g (goal.at.returns-in-Err-clause-given_back g c).After-query_all)
    c.drop-tx.ensures.survives c.drop-tx.ensures.ended c.drop-tx.ensures.undone

pub returns-in-Err-clause-reason : goal.returns-in-Err-clause-reason
returns-in-Err-clause-reason g c clean =
    let mid = state g.S.Store c.query_all.new.self.conn.now in
    let was : HasCleanDisk mid = search rules in
    unread_by g.S.Store c.args.conn.now mid c.in-Err.error c.unread.result
    (rw c.transaction-tx.ensures.begun at (c.in-Err.ensures.err was)) c.unread.ensures.outside c.unread.ensures.known

pub returns-then-is_bare-clause-given_back : goal.returns-then-is_bare-clause-given_back
returns-then-is_bare-clause-given_back g c =
    hands_back g.S.Store c.args.conn.now (state g.S.Store c.query_all.new.self.conn.now) c.drop-tx-then-is_bare.new.self.0
    c.conn-then-is_bare-1.given.0 (search rules)
    (CommitsTables Some (state g.S.Store c.args.conn.now)) (inside g (goal.at.returns-then-is_bare-clause-given_back g c).After-query_all)
    c.drop-tx-then-is_bare.ensures.survives c.drop-tx-then-is_bare.ensures.ended c.drop-tx-then-is_bare.ensures.undone

pub returns-in-Some-clause-given_back : goal.returns-in-Some-clause-given_back
returns-in-Some-clause-given_back g c =
    hands_back g.S.Store c.args.conn.now (state g.S.Store c.query_all.new.self.conn.now) c.drop-tx-in-Some.new.self.0 c.conn-in-Some-1.given.0 (search rules)
    (CommitsTables Some (state g.S.Store c.args.conn.now)) (inside g (goal.at.returns-in-Some-clause-given_back g c).After-query_all)
    c.drop-tx-in-Some.ensures.survives c.drop-tx-in-Some.ensures.ended c.drop-tx-in-Some.ensures.undone

pub returns-then-is_bare-clause-reason : goal.returns-then-is_bare-clause-reason
returns-then-is_bare-clause-reason g c clean =
    let mid = state g.S.Store c.query_all.new.self.conn.now in
    let was : HasCleanDisk mid = search rules in
    bare_by (state g.S.Store c.args.conn.now)
    (shown_open meta_read_text [] (state g.S.Store (record c.args.conn.now { in_transaction = true })) mid c.in-Ok.rows.items
    (rw c.transaction-tx.ensures.begun at (c.in-Ok.ensures.ok was)))
    (ap (λ (k : Schema). k.tables) (sym c.schema.ensures.value) ∙ c.if-is_bare.ensures.0 refl)

pub returns-in-Some-clause-reason : goal.returns-in-Some-clause-reason
returns-in-Some-clause-reason g c clean =
    let mid = state g.S.Store c.query_all.new.self.conn.now in
    let was : HasCleanDisk mid = search rules in
    said_by g.S.Store c.args.conn.now mid c.in-Ok.rows.items c.in-Some.fault (rw c.transaction-tx.ensures.begun at (c.in-Ok.ensures.ok was))
    (λ kind version n m is. sym c.in-Some.is ∙ c.refused.ensures kind version n m (c.deref.ensures.value ∙ is))
    (λ none. let some = c.if-is_bare.ensures.1 (ap (λ (k : Schema). k.tables) c.schema.ensures.value ∙ none) in cc)

pub returns-in_default-commit-clause-adopted : goal.returns-in_default-commit-clause-adopted
returns-in_default-commit-clause-adopted g c =
    let at = (goal.at.returns-in_default-commit-clause-adopted g c).After-commit in
    let old = c.args.conn.now in
    let mid = state g.S.Store c.query_all.new.self.conn.now in
    let end = c.commit.new.self.0 in
    let same : end ≡ c.conn-2-1.given.0 = search rules in
    let was : HasCleanDisk (state g.S.Store end) → HasCleanDisk mid = λ late. omega (arith, c.commit.ensures.survives.clean, late) in
    subst (λ h. Adopts (state g.S.Store old) (state g.S.Store h)) same
    (adopts g.S.Store old mid end c.in-Ok.rows.items {A = ℕ} {E = Error} 0
    (commits g.S.Store old mid end Some 0 (inside g (goal.at.After-commit g at).After-query_all) c.commit.ensures.survives (keeps g at)
    (λ late. (c.in_default-commit.ensures.ok late).1) (λ db opened may. g.met.S.Store.settled end.store db opened may)) was (shown g at)
    (λ kind version n m is. sym c.in_default.is ∙ c.refused.ensures kind version n m (c.deref.ensures.value ∙ is))
    (λ none. let some = c.if-is_bare.ensures.1 (ap (λ (k : Schema). k.tables) c.schema.ensures.value ∙ none) in cc))

pub returns-clause-given_back : goal.returns-clause-given_back
returns-clause-given_back g c =
    let at = (goal.at.returns-clause-given_back g c).After-commit in
    hands_back_uncommitted g.S.Store c.args.conn.now (state g.S.Store c.query_all.new.self.conn.now) c.commit.new.self.0 c.conn-2-1.given.0 (search rules)
    (CommitsTables Some (state g.S.Store c.args.conn.now)) (inside g (goal.at.After-commit g at).After-query_all) _ c.commit.ensures.survives
    (λ clean. committed_next g.S.Store c.args.conn.now (state g.S.Store c.query_all.new.self.conn.now) Some (keeps g at clean)) c.commit.ensures.ended
    (stays g at) c.in-Err-commit.ensures.err

pub returns-clause-reason : goal.returns-clause-reason
returns-clause-reason g c clean = comes _ _ c.fault_of.ensures.may_come
