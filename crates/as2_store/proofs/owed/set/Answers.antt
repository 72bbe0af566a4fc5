-- `set`, exit by exit: one of the statements failed, no entry has the number, the commit failed, committed. What the statements make of the tables is
-- `owes_none` and `owes_some` (OwedTables.antt); the ends of a call are lemmas of Marking.antt.
use Rattle.std.proofs.Common.{◌≡◌, ◌∙◌, ◌+◌, rules, refl, sym, subst, Err}
use Rattle.sqlite.specs.Held.{state}
use Rattle.sqlite.specs.State.{State as Connected, HasCleanDisk}
use Rattle.as2_records.specs.Owing.{set_receipt_in}
use Rattle.as2_store.proofs.OwedTables.{owes_none, owes_some}
use Rattle.as2_store.specs.Calls.{IsInside}
use Rattle.as2_store.proofs.Committing.{inside_then}
use Rattle.as2_store.proofs.Marking.{Follows, commits, drops, fails_to_commit}
use Rattle.as2_store.proofs.owed.set.Given.{Over}
use Rattle.as2_store.proofs.owed.set.Goals.{After-answer_for, After-commit, After-commit-2}
use Rattle.as2_store.proofs.owed.set.Goals as goal

-- the first two statements ran
second_ran : (g : Over) (c : After-answer_for g)
    → IsInside (c.in_ok-tx.tx.at + 1) (state g.S.Store c.in_ok-tx.tx.conn.now) (state g.S.Store c.answer_for.new.tx.conn.now)
second_ran g c = inside_then _ (state g.S.Store c.set_receipt_row.new.tx.conn.now)
    (state g.S.Store c.answer_for.new.tx.conn.now) c.set_receipt_row.ensures.within
    (subst (λ at. IsInside (at + 1) (state g.S.Store c.set_receipt_row.new.tx.conn.now)
    (state g.S.Store c.answer_for.new.tx.conn.now)) c.set_receipt_row.ensures.place c.answer_for.ensures.within)

-- in the same savepoint
second_place : (g : Over) (c : After-answer_for g) → c.answer_for.new.tx.at ≡ c.in_ok-tx.tx.at
second_place g c = c.answer_for.ensures.place ∙ c.set_receipt_row.ensures.place

-- no entry has the number: there is nothing to do
none : (g : Over) (c : After-commit g) → HasCleanDisk (state g.S.Store c.set_receipt_row.new.tx.conn.now)
    → Follows (state g.S.Store c.in_ok-tx.tx.conn.now) (state g.S.Store c.set_receipt_row.new.tx.conn.now) (set_receipt_in c.args.number c.args.progress)
none g c = owes_none (state g.S.Store c.in_ok-tx.tx.conn.now)
    (state g.S.Store c.set_receipt_row.new.tx.conn.now) c.args.number c.args.progress _ c.if-branch-eq0.true
    c.in_ok-set_receipt_row.ensures.open c.in_ok-set_receipt_row.ensures.put

-- an entry has it
some : (g : Over) (c : After-commit-2 g) → HasCleanDisk (state g.S.Store c.answer_for.new.tx.conn.now)
    → Follows (state g.S.Store c.in_ok-tx.tx.conn.now) (state g.S.Store c.answer_for.new.tx.conn.now) (set_receipt_in c.args.number c.args.progress)
some g c = owes_some (state g.S.Store c.in_ok-tx.tx.conn.now) (state g.S.Store c.set_receipt_row.new.tx.conn.now) c.args.number
    (state g.S.Store c.answer_for.new.tx.conn.now) c.asked.result c.args.progress c.asked.ensures.within _
    c.if-branch-eq0.false c.answer_for.ensures.within.clean c.in_ok-set_receipt_row.ensures.open c.in_ok-set_receipt_row.ensures.put
    c.in_ok-answer_for.ensures.put

pub returns-in_err-set_receipt_row : goal.returns-in_err-set_receipt_row
returns-in_err-set_receipt_row g c =
    record {
      set = drops g.S.Store c.args.conn.now c.in_ok-tx.tx.conn.now c.in_ok-tx.tx.at c.in_ok-tx.ensures.ok c.in_ok-tx.ensures.survives
          (state g.S.Store c.set_receipt_row.new.tx.conn.now) c.set_receipt_row.ensures.within c.drop-tx.new.self.0
          c.conn-in_err-set_receipt_row-1.given.0 (search rules) c.set_receipt_row.new.tx.at c.set_receipt_row.ensures.place
          (set_receipt_in c.args.number c.args.progress) c.from_residual-in_err-set_receipt_row.result
          c.from_residual-in_err-set_receipt_row.ensures.0 c.drop-tx.ensures.survives c.drop-tx.ensures.undone;
    }

pub returns-in_err-answer_for : goal.returns-in_err-answer_for
returns-in_err-answer_for g c =
    let at = (goal.at.returns-in_err-answer_for g c).After-answer_for in
    record {
      set = drops g.S.Store c.args.conn.now c.in_ok-tx.tx.conn.now c.in_ok-tx.tx.at c.in_ok-tx.ensures.ok c.in_ok-tx.ensures.survives
          (state g.S.Store c.answer_for.new.tx.conn.now)
          (second_ran g at) c.drop-tx-in_err-answer_for.new.self.0 c.conn-in_err-answer_for-1.given.0 (search rules) c.answer_for.new.tx.at
          (second_place g at)
          (set_receipt_in c.args.number c.args.progress) c.from_residual-in_err-answer_for.result c.from_residual-in_err-answer_for.ensures.0
          c.drop-tx-in_err-answer_for.ensures.survives c.drop-tx-in_err-answer_for.ensures.undone;
    }

pub returns-in_err-commit : goal.returns-in_err-commit
returns-in_err-commit g c =
    let done = (goal.at.returns-in_err-commit g c).After-commit in
    record {
      set = fails_to_commit g.S.Store c.args.conn.now c.in_ok-tx.tx.conn.now c.in_ok-tx.tx.at c.in_ok-tx.ensures.ok c.in_ok-tx.ensures.survives
          (state g.S.Store c.set_receipt_row.new.tx.conn.now) c.set_receipt_row.ensures.within c.commit.new.self.0 c.conn-then-branch-eq0-1.given.0
          (search rules) c.set_receipt_row.new.tx.at c.set_receipt_row.ensures.place
          (set_receipt_in c.args.number c.args.progress) c.from_residual-in_err-commit.result _ c.from_residual-in_err-commit.ensures.0
          c.commit.ensures.survives (none g done)
          c.in_ok-set_receipt_row.ensures.inside c.in_err-commit.ensures.err;
    }

pub returns-then-branch-eq0 : goal.returns-then-branch-eq0
returns-then-branch-eq0 g c =
    let done = (goal.at.returns-then-branch-eq0 g c).After-commit in
    record {
      set = commits g.S.Store c.args.conn.now c.in_ok-tx.tx.conn.now c.in_ok-tx.tx.at c.in_ok-tx.ensures.ok c.in_ok-tx.ensures.survives
          (state g.S.Store c.set_receipt_row.new.tx.conn.now) c.set_receipt_row.ensures.within c.commit.new.self.0 c.conn-then-branch-eq0-1.given.0
          (search rules) c.set_receipt_row.new.tx.at c.set_receipt_row.ensures.place
          (set_receipt_in c.args.number c.args.progress) tt c.commit.ensures.survives (none g done) c.in_ok-set_receipt_row.ensures.inside
          c.in_ok-commit.ensures.ok (λ db opened may. g.met.S.Store.settled c.commit.new.self.0.store db opened may);
    }

pub returns-in_err-commit-2 : goal.returns-in_err-commit-2
returns-in_err-commit-2 g c =
    let done = (goal.at.returns-in_err-commit-2 g c).After-commit-2 in
    let at = (goal.at.After-commit-2 g done).After-answer_for in
    record {
      set = fails_to_commit g.S.Store c.args.conn.now c.in_ok-tx.tx.conn.now c.in_ok-tx.tx.at c.in_ok-tx.ensures.ok c.in_ok-tx.ensures.survives
          (state g.S.Store c.answer_for.new.tx.conn.now) (second_ran g at) c.commit-2.new.self.0 c.conn-2-1.given.0
          (search rules) c.answer_for.new.tx.at (second_place g at)
          (set_receipt_in c.args.number c.args.progress) c.from_residual-in_err-commit-2.result _ c.from_residual-in_err-commit-2.ensures.0
          c.commit-2.ensures.survives (some g done)
          c.in_ok-answer_for.ensures.inside c.in_err-commit-2.ensures.err;
    }

pub returns : goal.returns
returns g c =
    let done = (goal.at.returns g c).After-commit-2 in
    let at = (goal.at.After-commit-2 g done).After-answer_for in
    record {
      set = commits g.S.Store c.args.conn.now c.in_ok-tx.tx.conn.now c.in_ok-tx.tx.at c.in_ok-tx.ensures.ok c.in_ok-tx.ensures.survives
          (state g.S.Store c.answer_for.new.tx.conn.now) (second_ran g at) c.commit-2.new.self.0 c.conn-2-1.given.0
          (search rules) c.answer_for.new.tx.at (second_place g at)
          (set_receipt_in c.args.number c.args.progress) tt c.commit-2.ensures.survives (some g done) c.in_ok-answer_for.ensures.inside
          c.in_ok-commit-2.ensures.ok (λ db opened may. g.met.S.Store.settled c.commit-2.new.self.0.store db opened may);
    }
