-- `expire`, exit by exit: a step failed, there are more documents than a number can count, the commit failed, committed. What both steps make of the
-- tables is `time_passes` (PassedTables.antt); the ends of a call are lemmas of Marking.antt.
use Rattle.std.proofs.Common.{◌≡◌, ◌∙◌, ◌+◌, rules, refl, sym, ap, ap₂, subst, arith, Err}
use Rattle.sqlite.specs.Held.{state}
use Rattle.sqlite.specs.State.{State as Connected, HasCleanDisk}
use Rattle.sqlite.specs.declared.error.Error.TheVariants.{SqliteFailure}
use Rattle.sqlite.specs.declared.error.ErrorCode.TheVariants.{OutOfMemory}
use Rattle.sqlite.specs.Effect.{Database}
use Rattle.sqlite.specs.Held.{Held}
use Rattle.as2_exchange.specs.declared.answer.Answer.TheVariants.{Ticked}
use Rattle.as2_records.specs.Expiring.{ticked_in}
use Rattle.as2_store.specs.Stands.{Holds}
use Rattle.as2_store.proofs.PassedDocuments.{all_counted}
use Rattle.as2_store.proofs.PassedTables.{time_passes}
use Rattle.as2_store.specs.Calls.{IsInside}
use Rattle.as2_store.proofs.Committing.{inside_then}
use Rattle.as2_store.proofs.Marking.{Follows, commits, drops, fails_to_commit}
use Rattle.as2_store.proofs.expiring.expire.Given.{Over}
use Rattle.as2_store.proofs.expiring.expire.Goals.{After-pass_due-2, After-commit}
use Rattle.as2_store.proofs.expiring.expire.Goals as goal

-- the first two statements ran
second_ran : (g : Over) (c : After-pass_due-2 g)
    → IsInside (c.in_ok-tx.tx.at + 1) (state g.S.Store c.in_ok-tx.tx.conn.now) (state g.S.Store c.pass_due-2.new.tx.conn.now)
second_ran g c = inside_then _ (state g.S.Store c.pass_due.new.tx.conn.now) (state g.S.Store c.pass_due-2.new.tx.conn.now) c.pass_due.ensures.within
    (subst (λ at. IsInside (at + 1) (state g.S.Store c.pass_due.new.tx.conn.now)
    (state g.S.Store c.pass_due-2.new.tx.conn.now)) c.pass_due.ensures.place c.pass_due-2.ensures.within)

-- in the same savepoint
second_place : (g : Over) (c : After-pass_due-2 g) → c.pass_due-2.new.tx.at ≡ c.in_ok-tx.tx.at
second_place g c = c.pass_due-2.ensures.place ∙ c.pass_due.ensures.place

pub pass_due-requires-clause-begun : goal.pass_due-requires-clause-begun
pass_due-requires-clause-begun g c clean = (c.in_ok-tx.ensures.ok clean).1.0.mode

pub pass_due-requires-2-clause-begun : goal.pass_due-requires-2-clause-begun
pass_due-requires-2-clause-begun g c clean = c.in_ok-overdue.ensures.inside clean

pub returns-clause-counted : goal.returns-clause-counted
returns-clause-counted g c late s r =
    let m = c.args.moment in
    let last = (state g.S.Store c.pass_due-2.new.tx.conn.now) in
    let same : c.commit.new.self.0 ≡ c.conn-2-1.given.0 = search rules in
    let clean : HasCleanDisk last = omega (arith, c.commit.ensures.survives.clean, subst (λ (h : Held _). HasCleanDisk (state g.S.Store h)) (sym same) late) in
    let was = c.pass_due-2.ensures.within.clean clean in
    let marks = (c.in_ok-tx.ensures.ok (c.pass_due.ensures.within.clean was)).1.0 in
    let here = subst (λ (d : Database). Holds d s) (sym marks.now_is) (r marks.was_open) in
    let first = c.in_ok-overdue.ensures.passed was here.way s here.stands in
    let second = c.in_ok-used_up.ensures.passed clean here.way _ first.0 in
    let sum : c.in-Some.count ≡ c.in_ok-overdue.overdue + c.in_ok-used_up.used_up = c.in-Some.ensures.1 in
    ap Ticked (sum ∙ ap₂ (λ a b. a + b) first.1 second.1) ∙ all_counted m s

passed : (g : Over) (c : After-commit g) → HasCleanDisk (state g.S.Store c.pass_due-2.new.tx.conn.now)
    → Follows (state g.S.Store c.in_ok-tx.tx.conn.now) (state g.S.Store c.pass_due-2.new.tx.conn.now) (ticked_in c.args.moment)
passed g c =
    time_passes (state g.S.Store c.in_ok-tx.tx.conn.now) (state g.S.Store c.pass_due.new.tx.conn.now)
    (state g.S.Store c.pass_due-2.new.tx.conn.now) c.args.moment
    c.in_ok-overdue.overdue c.in_ok-used_up.used_up c.pass_due-2.ensures.within.clean c.in_ok-overdue.ensures.open c.in_ok-overdue.ensures.passed
    c.in_ok-used_up.ensures.passed

pub returns-in_err-overdue-clause-passed : goal.returns-in_err-overdue-clause-passed
returns-in_err-overdue-clause-passed g c =
    drops g.S.Store c.args.conn.now c.in_ok-tx.tx.conn.now c.in_ok-tx.tx.at c.in_ok-tx.ensures.ok c.in_ok-tx.ensures.survives
    (state g.S.Store c.pass_due.new.tx.conn.now) c.pass_due.ensures.within c.drop-tx.new.self.0 c.conn-in_err-overdue-1.given.0
    (search rules) c.pass_due.new.tx.at c.pass_due.ensures.place
    (ticked_in c.args.moment) c.from_residual-in_err-overdue.result c.from_residual-in_err-overdue.ensures.0 c.drop-tx.ensures.survives c.drop-tx.ensures.undone

pub returns-in_err-used_up-clause-passed : goal.returns-in_err-used_up-clause-passed
returns-in_err-used_up-clause-passed g c =
    let at = (goal.at.returns-in_err-used_up-clause-passed g c).After-pass_due-2 in
    drops g.S.Store c.args.conn.now c.in_ok-tx.tx.conn.now c.in_ok-tx.tx.at c.in_ok-tx.ensures.ok c.in_ok-tx.ensures.survives
    (state g.S.Store c.pass_due-2.new.tx.conn.now) (second_ran g at) c.drop-tx-in_err-used_up.new.self.0 c.conn-in_err-used_up-1.given.0
    (search rules) c.pass_due-2.new.tx.at (second_place g at)
    (ticked_in c.args.moment) c.from_residual-in_err-used_up.result c.from_residual-in_err-used_up.ensures.0
    c.drop-tx-in_err-used_up.ensures.survives c.drop-tx-in_err-used_up.ensures.undone

pub returns-in_default-clause-passed : goal.returns-in_default-clause-passed
returns-in_default-clause-passed g c =
    let at = (goal.at.returns-in_default-clause-passed g c).After-pass_due-2 in
    drops g.S.Store c.args.conn.now c.in_ok-tx.tx.conn.now c.in_ok-tx.tx.at c.in_ok-tx.ensures.ok c.in_ok-tx.ensures.survives
    (state g.S.Store c.pass_due-2.new.tx.conn.now) (second_ran g at) c.drop-tx-in_default.new.self.0 c.conn-in_default-1.given.0
    (search rules) c.pass_due-2.new.tx.at (second_place g at)
    (ticked_in c.args.moment) (Err (SqliteFailure OutOfMemory)) refl c.drop-tx-in_default.ensures.survives c.drop-tx-in_default.ensures.undone

pub returns-in_err-commit-clause-passed : goal.returns-in_err-commit-clause-passed
returns-in_err-commit-clause-passed g c =
    let done = (goal.at.returns-in_err-commit-clause-passed g c).After-commit in
    let at = (goal.at.After-commit g done).After-pass_due-2 in
    fails_to_commit g.S.Store c.args.conn.now c.in_ok-tx.tx.conn.now c.in_ok-tx.tx.at c.in_ok-tx.ensures.ok c.in_ok-tx.ensures.survives
    (state g.S.Store c.pass_due-2.new.tx.conn.now) (second_ran g at) c.commit.new.self.0 c.conn-2-1.given.0 (search rules) c.pass_due-2.new.tx.at
    (second_place g at)
    (ticked_in c.args.moment) c.from_residual-in_err-commit.result _ c.from_residual-in_err-commit.ensures.0 c.commit.ensures.survives (passed g done)
    c.in_ok-used_up.ensures.inside c.in_err-commit.ensures.err

pub returns-clause-passed : goal.returns-clause-passed
returns-clause-passed g c =
    let done = (goal.at.returns-clause-passed g c).After-commit in
    let at = (goal.at.After-commit g done).After-pass_due-2 in
    commits g.S.Store c.args.conn.now c.in_ok-tx.tx.conn.now c.in_ok-tx.tx.at c.in_ok-tx.ensures.ok c.in_ok-tx.ensures.survives
    (state g.S.Store c.pass_due-2.new.tx.conn.now) (second_ran g at) c.commit.new.self.0 c.conn-2-1.given.0 (search rules) c.pass_due-2.new.tx.at
    (second_place g at)
    (ticked_in c.args.moment) c.in-Some.count c.commit.ensures.survives (passed g done) c.in_ok-used_up.ensures.inside
    c.in_ok-commit.ensures.ok (λ db opened may. g.met.S.Store.settled c.commit.new.self.0.store db opened may)
