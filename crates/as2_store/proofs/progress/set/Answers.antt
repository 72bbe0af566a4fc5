-- `set`, exit by exit: one of the statements failed, no document has the number, the commit failed, committed. What the statements make of the
-- tables is `comes_further` (SetTables.antt); the ends of a call are lemmas of Marking.antt.
use Rattle.std.proofs.Common.{◌≡◌, ◌∙◌, ◌+◌, rules, refl, sym, subst, Err}
use Rattle.sqlite.specs.Held.{state}
use Rattle.sqlite.specs.State.{State as Connected, HasCleanDisk}
use Rattle.sqlite.specs.declared.error.Error.TheVariants.{QueryReturnedNoRows}
use Rattle.as2_records.specs.Progressing.{set_out_in}
use Rattle.as2_store.proofs.SetTables.{comes_further}
use Rattle.as2_store.specs.Calls.{IsInside}
use Rattle.as2_store.proofs.Committing.{inside_then}
use Rattle.as2_store.proofs.Marking.{Follows, commits, drops, fails_to_commit}
use Rattle.as2_store.proofs.progress.set.Given.{Over}
use Rattle.as2_store.proofs.progress.set.Goals.{After-set_progress, After-wait_for, After-commit}
use Rattle.as2_store.proofs.progress.set.Goals as goal

-- the first two statements ran
second_ran : (g : Over) (c : After-set_progress g)
    → IsInside (c.in_ok-tx.tx.at + 1) (state g.S.Store c.in_ok-tx.tx.conn.now) (state g.S.Store c.set_progress.new.tx.conn.now)
second_ran g c = inside_then _ (state g.S.Store c.ready.new.tx.conn.now) (state g.S.Store c.set_progress.new.tx.conn.now) c.ready.ensures.within
    (subst (λ at. IsInside (at + 1) (state g.S.Store c.ready.new.tx.conn.now)
    (state g.S.Store c.set_progress.new.tx.conn.now)) c.ready.ensures.place c.set_progress.ensures.within)

-- in the same savepoint
second_place : (g : Over) (c : After-set_progress g) → c.set_progress.new.tx.at ≡ c.in_ok-tx.tx.at
second_place g c = c.set_progress.ensures.place ∙ c.ready.ensures.place

-- and so did the third
third_ran : (g : Over) (c : After-wait_for g)
    → IsInside (c.in_ok-tx.tx.at + 1) (state g.S.Store c.in_ok-tx.tx.conn.now) (state g.S.Store c.wait_for.new.tx.conn.now)
third_ran g c = inside_then _ (state g.S.Store c.set_progress.new.tx.conn.now) (state g.S.Store c.wait_for.new.tx.conn.now)
    (second_ran g (goal.at.After-wait_for g c).After-set_progress)
    (subst (λ at. IsInside (at + 1) (state g.S.Store c.set_progress.new.tx.conn.now) (state g.S.Store c.wait_for.new.tx.conn.now))
    (second_place g (goal.at.After-wait_for g c).After-set_progress) c.wait_for.ensures.within)

-- in the same savepoint
third_place : (g : Over) (c : After-wait_for g) → c.wait_for.new.tx.at ≡ c.in_ok-tx.tx.at
third_place g c = c.wait_for.ensures.place ∙ second_place g (goal.at.After-wait_for g c).After-set_progress

further : (g : Over) (c : After-commit g) → HasCleanDisk (state g.S.Store c.wait_for.new.tx.conn.now)
    → Follows (state g.S.Store c.in_ok-tx.tx.conn.now) (state g.S.Store c.wait_for.new.tx.conn.now) (set_out_in c.args.number c.args.progress)
further g c =
    comes_further (state g.S.Store c.in_ok-tx.tx.conn.now) (state g.S.Store c.ready.new.tx.conn.now)
    (state g.S.Store c.set_progress.new.tx.conn.now) (state g.S.Store c.wait_for.new.tx.conn.now)
    c.args.number c.asked-wanted.result c.args.progress c.asked-wanted.ensures.beyond c.asked-wanted.ensures.within _ c.if-branch-eq0.false
    c.wait_for.ensures.within.clean c.set_progress.ensures.within.clean c.ready.ensures.within.kept c.in_ok-set_progress.ensures.open
    c.in_ok-ready.ensures.readied c.in_ok-set_progress.ensures.put c.in_ok-wait_for.ensures.put

pub returns-in_err-ready : goal.returns-in_err-ready
returns-in_err-ready g c =
    record {
      set = drops g.S.Store c.args.conn.now c.in_ok-tx.tx.conn.now c.in_ok-tx.tx.at c.in_ok-tx.ensures.ok c.in_ok-tx.ensures.survives
          (state g.S.Store c.ready.new.tx.conn.now) c.ready.ensures.within c.drop-tx.new.self.0 c.conn-in_err-ready-1.given.0
          (search rules) c.ready.new.tx.at c.ready.ensures.place
          (set_out_in c.args.number c.args.progress) c.from_residual-in_err-ready.result c.from_residual-in_err-ready.ensures.0
          c.drop-tx.ensures.survives c.drop-tx.ensures.undone;
    }

pub returns-in_err-set_progress : goal.returns-in_err-set_progress
returns-in_err-set_progress g c =
    let at = (goal.at.returns-in_err-set_progress g c).After-set_progress in
    record {
      set = drops g.S.Store c.args.conn.now c.in_ok-tx.tx.conn.now c.in_ok-tx.tx.at c.in_ok-tx.ensures.ok c.in_ok-tx.ensures.survives
          (state g.S.Store c.set_progress.new.tx.conn.now)
          (second_ran g at) c.drop-tx-in_err-set_progress.new.self.0 c.conn-in_err-set_progress-1.given.0 (search rules) c.set_progress.new.tx.at
          (second_place g at)
          (set_out_in c.args.number c.args.progress) c.from_residual-in_err-set_progress.result c.from_residual-in_err-set_progress.ensures.0
          c.drop-tx-in_err-set_progress.ensures.survives c.drop-tx-in_err-set_progress.ensures.undone;
    }

pub returns-then-branch-eq0 : goal.returns-then-branch-eq0
returns-then-branch-eq0 g c =
    let at = (goal.at.returns-then-branch-eq0 g c).After-set_progress in
    record {
      set = drops g.S.Store c.args.conn.now c.in_ok-tx.tx.conn.now c.in_ok-tx.tx.at c.in_ok-tx.ensures.ok c.in_ok-tx.ensures.survives
          (state g.S.Store c.set_progress.new.tx.conn.now) (second_ran g at) c.drop-tx-then-branch-eq0.new.self.0 c.conn-then-branch-eq0-1.given.0
          (search rules) c.set_progress.new.tx.at (second_place g at)
          (set_out_in c.args.number c.args.progress)
          (Err QueryReturnedNoRows) refl c.drop-tx-then-branch-eq0.ensures.survives c.drop-tx-then-branch-eq0.ensures.undone;
    }

pub returns-in_err-wait_for : goal.returns-in_err-wait_for
returns-in_err-wait_for g c =
    let at = (goal.at.returns-in_err-wait_for g c).After-wait_for in
    record {
      set = drops g.S.Store c.args.conn.now c.in_ok-tx.tx.conn.now c.in_ok-tx.tx.at c.in_ok-tx.ensures.ok c.in_ok-tx.ensures.survives
          (state g.S.Store c.wait_for.new.tx.conn.now) (third_ran g at) c.drop-tx-in_err-wait_for.new.self.0 c.conn-in_err-wait_for-1.given.0
          (sym (c.conn-in_err-wait_for-1.given.1
          (sym (c.wait_for.ensures.same_reference ∙ c.set_progress.ensures.same_reference ∙ c.ready.ensures.same_reference
          ∙ c.in_ok-tx.ensures.same_reference)))) c.wait_for.new.tx.at (third_place g at)
          (set_out_in c.args.number c.args.progress) c.from_residual-in_err-wait_for.result c.from_residual-in_err-wait_for.ensures.0
          c.drop-tx-in_err-wait_for.ensures.survives c.drop-tx-in_err-wait_for.ensures.undone;
    }

pub returns-in_err-commit : goal.returns-in_err-commit
returns-in_err-commit g c =
    let done = (goal.at.returns-in_err-commit g c).After-commit in
    let at = (goal.at.After-commit g done).After-wait_for in
    record {
      set = fails_to_commit g.S.Store c.args.conn.now c.in_ok-tx.tx.conn.now c.in_ok-tx.tx.at c.in_ok-tx.ensures.ok c.in_ok-tx.ensures.survives
          (state g.S.Store c.wait_for.new.tx.conn.now) (third_ran g at) c.commit.new.self.0 c.conn-2-1.given.0
          (sym (c.conn-2-1.given.1
          (sym (c.wait_for.ensures.same_reference ∙ c.set_progress.ensures.same_reference ∙ c.ready.ensures.same_reference
          ∙ c.in_ok-tx.ensures.same_reference)))) c.wait_for.new.tx.at (third_place g at)
          (set_out_in c.args.number c.args.progress) c.from_residual-in_err-commit.result _ c.from_residual-in_err-commit.ensures.0
          c.commit.ensures.survives (further g done)
          c.in_ok-wait_for.ensures.inside c.in_err-commit.ensures.err;
    }

pub returns : goal.returns
returns g c =
    let done = (goal.at.returns g c).After-commit in
    let at = (goal.at.After-commit g done).After-wait_for in
    record {
      set = commits g.S.Store c.args.conn.now c.in_ok-tx.tx.conn.now c.in_ok-tx.tx.at c.in_ok-tx.ensures.ok c.in_ok-tx.ensures.survives
          (state g.S.Store c.wait_for.new.tx.conn.now) (third_ran g at) c.commit.new.self.0 c.conn-2-1.given.0
          (sym (c.conn-2-1.given.1
          (sym (c.wait_for.ensures.same_reference ∙ c.set_progress.ensures.same_reference ∙ c.ready.ensures.same_reference
          ∙ c.in_ok-tx.ensures.same_reference)))) c.wait_for.new.tx.at (third_place g at)
          (set_out_in c.args.number c.args.progress) tt c.commit.ensures.survives (further g done) c.in_ok-wait_for.ensures.inside
          c.in_ok-commit.ensures.ok (λ db opened may. g.met.S.Store.settled c.commit.new.self.0.store db opened may);
    }
