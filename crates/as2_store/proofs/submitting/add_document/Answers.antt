-- `add_document`, exit by exit: `put_submitted` failed, raising the counter failed, it raised no row (the number isn't the next), the commit failed,
-- committed. What the two statements make of the tables is `adds_document` (AddedDocument.antt); the ends of a call are lemmas of Marking.antt.
use Rattle.std.proofs.Common.{◌≡◌, ◌∙◌, ◌+◌, rules, refl, sym, subst, Err}
use Rattle.sqlite.specs.Held.{state}
use Rattle.sqlite.specs.State.{State as Connected, HasCleanDisk}
use Rattle.sqlite.specs.declared.error.Error.TheVariants.{QueryReturnedNoRows}
use Rattle.as2_records.specs.Adding.{added_document}
use Rattle.as2_store.proofs.AddedDocument.{adds_document}
use Rattle.as2_store.specs.Calls.{IsInside}
use Rattle.as2_store.proofs.Committing.{inside_then}
use Rattle.as2_store.proofs.Marking.{Follows, commits, drops, fails_to_commit}
use Rattle.as2_store.proofs.submitting.add_document.Given.{Over}
use Rattle.as2_store.proofs.submitting.add_document.Goals.{After-raise_next_document, After-commit}
use Rattle.as2_store.proofs.submitting.add_document.Goals as goal

-- the first two statements ran
second_ran : (g : Over) (c : After-raise_next_document g)
    → IsInside (c.in_ok-tx.tx.at + 1) (state g.S.Store c.in_ok-tx.tx.conn.now) (state g.S.Store c.raise_next_document.new.tx.conn.now)
second_ran g c = inside_then _ (state g.S.Store c.put_submitted.new.tx.conn.now)
    (state g.S.Store c.raise_next_document.new.tx.conn.now) c.put_submitted.ensures.within
    (subst (λ at. IsInside (at + 1) (state g.S.Store c.put_submitted.new.tx.conn.now)
    (state g.S.Store c.raise_next_document.new.tx.conn.now)) c.put_submitted.ensures.place c.raise_next_document.ensures.within)

-- in the same savepoint
second_place : (g : Over) (c : After-raise_next_document g) → c.raise_next_document.new.tx.at ≡ c.in_ok-tx.tx.at
second_place g c = c.raise_next_document.ensures.place ∙ c.put_submitted.ensures.place

added : (g : Over) (c : After-commit g) → HasCleanDisk (state g.S.Store c.raise_next_document.new.tx.conn.now)
    → Follows (state g.S.Store c.in_ok-tx.tx.conn.now) (state g.S.Store c.raise_next_document.new.tx.conn.now) (added_document c.args.entry.now)
added g c =
    adds_document (state g.S.Store c.in_ok-tx.tx.conn.now) (state g.S.Store c.put_submitted.new.tx.conn.now)
    (state g.S.Store c.raise_next_document.new.tx.conn.now)
    c.args.entry.now c.requires.number c.raise_next_document.ensures.within.clean c.in_ok-put_submitted.ensures.open c.in_ok-put_submitted.ensures.put
    (λ clean way n m has. c.in_ok-raise_next_document.ensures.put clean way n m has c.if-branch-eq0.false)

pub returns-in_err-put_submitted : goal.returns-in_err-put_submitted
returns-in_err-put_submitted g c =
    record {
      added = drops g.S.Store c.args.conn.now c.in_ok-tx.tx.conn.now c.in_ok-tx.tx.at c.in_ok-tx.ensures.ok c.in_ok-tx.ensures.survives
          (state g.S.Store c.put_submitted.new.tx.conn.now) c.put_submitted.ensures.within c.drop-tx.new.self.0
          c.conn-in_err-put_submitted-1.given.0 (search rules) c.put_submitted.new.tx.at c.put_submitted.ensures.place
          (added_document c.args.entry.now) c.from_residual-in_err-put_submitted.result c.from_residual-in_err-put_submitted.ensures.0
          c.drop-tx.ensures.survives c.drop-tx.ensures.undone;
    }

pub returns-in_err-raise_next_document : goal.returns-in_err-raise_next_document
returns-in_err-raise_next_document g c =
    let at = (goal.at.returns-in_err-raise_next_document g c).After-raise_next_document in
    record {
      added = drops g.S.Store c.args.conn.now c.in_ok-tx.tx.conn.now c.in_ok-tx.tx.at c.in_ok-tx.ensures.ok c.in_ok-tx.ensures.survives
          (state g.S.Store c.raise_next_document.new.tx.conn.now)
          (second_ran g at) c.drop-tx-in_err-raise_next_document.new.self.0 c.conn-in_err-raise_next_document-1.given.0
          (search rules) c.raise_next_document.new.tx.at (second_place g at)
          (added_document c.args.entry.now) c.from_residual-in_err-raise_next_document.result c.from_residual-in_err-raise_next_document.ensures.0
          c.drop-tx-in_err-raise_next_document.ensures.survives c.drop-tx-in_err-raise_next_document.ensures.undone;
    }

pub returns-then-branch-eq0 : goal.returns-then-branch-eq0
returns-then-branch-eq0 g c =
    let at = (goal.at.returns-then-branch-eq0 g c).After-raise_next_document in
    record {
      added = drops g.S.Store c.args.conn.now c.in_ok-tx.tx.conn.now c.in_ok-tx.tx.at c.in_ok-tx.ensures.ok c.in_ok-tx.ensures.survives
          (state g.S.Store c.raise_next_document.new.tx.conn.now)
          (second_ran g at) c.drop-tx-then-branch-eq0.new.self.0 c.conn-then-branch-eq0-1.given.0 (search rules) c.raise_next_document.new.tx.at
          (second_place g at)
          (added_document c.args.entry.now) (Err QueryReturnedNoRows) refl c.drop-tx-then-branch-eq0.ensures.survives c.drop-tx-then-branch-eq0.ensures.undone;
    }

pub returns-in_err-commit : goal.returns-in_err-commit
returns-in_err-commit g c =
    let done = (goal.at.returns-in_err-commit g c).After-commit in
    let at = (goal.at.After-commit g done).After-raise_next_document in
    record {
      added = fails_to_commit g.S.Store c.args.conn.now c.in_ok-tx.tx.conn.now c.in_ok-tx.tx.at c.in_ok-tx.ensures.ok c.in_ok-tx.ensures.survives
          (state g.S.Store c.raise_next_document.new.tx.conn.now) (second_ran g at) c.commit.new.self.0 c.conn-2-1.given.0
          (search rules) c.raise_next_document.new.tx.at (second_place g at)
          (added_document c.args.entry.now) c.from_residual-in_err-commit.result _ c.from_residual-in_err-commit.ensures.0
          c.commit.ensures.survives (added g done)
          c.in_ok-raise_next_document.ensures.inside c.in_err-commit.ensures.err;
    }

pub returns : goal.returns
returns g c =
    let done = (goal.at.returns g c).After-commit in
    let at = (goal.at.After-commit g done).After-raise_next_document in
    record {
      added = commits g.S.Store c.args.conn.now c.in_ok-tx.tx.conn.now c.in_ok-tx.tx.at c.in_ok-tx.ensures.ok c.in_ok-tx.ensures.survives
          (state g.S.Store c.raise_next_document.new.tx.conn.now) (second_ran g at) c.commit.new.self.0 c.conn-2-1.given.0
          (search rules) c.raise_next_document.new.tx.at (second_place g at)
          (added_document c.args.entry.now) tt c.commit.ensures.survives (added g done) c.in_ok-raise_next_document.ensures.inside
          c.in_ok-commit.ensures.ok (λ db opened may. g.met.S.Store.settled c.commit.new.self.0.store db opened may);
    }
