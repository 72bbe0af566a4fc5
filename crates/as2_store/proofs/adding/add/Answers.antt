-- `add`, exit by exit: `put_received` failed, raising the counter failed, it raised no row (the number isn't the next), the commit failed, committed.
-- What the two statements make of the tables is `adds` (AddedTables.antt); the ends of a call are lemmas of Marking.antt. One statement more goes
-- into `put_received` (`entered` of AddedTables.antt says what that makes of the rows).
use Rattle.std.proofs.Common.{◌≡◌, ◌∙◌, ◌+◌, rules, refl, subst, Err}
use Rattle.sqlite.specs.Held.{state}
use Rattle.sqlite.specs.State.{State as Connected, HasCleanDisk}
use Rattle.sqlite.specs.declared.error.Error.TheVariants.{QueryReturnedNoRows}
use Rattle.as2_records.specs.Adding.{state_with}
use Rattle.as2_store.specs.Calls.{IsInside}
use Rattle.as2_store.proofs.Committing.{inside_then}
use Rattle.as2_store.proofs.Marking.{Follows, commits, drops, fails_to_commit}
use Rattle.as2_store.proofs.AddedTables.{adds}
use Rattle.as2_store.proofs.adding.add.Given.{Over}
use Rattle.as2_store.proofs.adding.add.Goals.{After-raise_next_receipt, After-commit}
use Rattle.as2_store.proofs.adding.add.Goals as goal

module _ (g : Over) (c : After-raise_next_receipt g) where
  -- both statements ran
  inside : IsInside (c.in_ok-tx.tx.at + 1) (state g.S.Store c.in_ok-tx.tx.conn.now) (state g.S.Store c.raise_next_receipt.new.tx.conn.now)
  inside = inside_then _ (state g.S.Store c.put_received.new.tx.conn.now) (state g.S.Store c.raise_next_receipt.new.tx.conn.now) c.put_received.ensures.within
      (subst (λ at. IsInside (at + 1) (state g.S.Store c.put_received.new.tx.conn.now) (state g.S.Store c.raise_next_receipt.new.tx.conn.now))
      c.put_received.ensures.place c.raise_next_receipt.ensures.within)

  -- in the same savepoint
  here : c.raise_next_receipt.new.tx.at ≡ c.in_ok-tx.tx.at
  here = c.raise_next_receipt.ensures.place ∙ c.put_received.ensures.place

-- they added the entry
added : (g : Over) (c : After-commit g) → HasCleanDisk (state g.S.Store c.raise_next_receipt.new.tx.conn.now)
    → Follows (state g.S.Store c.in_ok-tx.tx.conn.now) (state g.S.Store c.raise_next_receipt.new.tx.conn.now) (state_with c.args.entry.now)
added g c =
    adds (state g.S.Store c.in_ok-tx.tx.conn.now) (state g.S.Store c.put_received.new.tx.conn.now) (state g.S.Store c.raise_next_receipt.new.tx.conn.now)
    c.args.entry.now c.requires.number c.raise_next_receipt.ensures.within.clean c.in_ok-put_received.ensures.open c.in_ok-put_received.ensures.put
    (λ clean way n m has. c.in_ok-raise_next_receipt.ensures.put clean way n m has c.if-branch-eq0.false)

pub returns-in_err-put_received : goal.returns-in_err-put_received
returns-in_err-put_received g c = record {
  added = drops g.S.Store c.args.conn.now c.in_ok-tx.tx.conn.now c.in_ok-tx.tx.at c.in_ok-tx.ensures.ok c.in_ok-tx.ensures.survives
      (state g.S.Store c.put_received.new.tx.conn.now) c.put_received.ensures.within c.drop-tx.new.self.0 c.conn-in_err-put_received-1.given.0
      (search rules) c.put_received.new.tx.at
      c.put_received.ensures.place (state_with c.args.entry.now) c.from_residual-in_err-put_received.result c.from_residual-in_err-put_received.ensures.0
      c.drop-tx.ensures.survives c.drop-tx.ensures.undone;
}

pub returns-in_err-raise_next_receipt : goal.returns-in_err-raise_next_receipt
returns-in_err-raise_next_receipt g c =
    let at = (goal.at.returns-in_err-raise_next_receipt g c).After-raise_next_receipt in
    record {
      added = drops g.S.Store c.args.conn.now c.in_ok-tx.tx.conn.now c.in_ok-tx.tx.at c.in_ok-tx.ensures.ok c.in_ok-tx.ensures.survives
          (state g.S.Store c.raise_next_receipt.new.tx.conn.now)
          (inside g at) c.drop-tx-in_err-raise_next_receipt.new.self.0 c.conn-in_err-raise_next_receipt-1.given.0 (search rules)
          c.raise_next_receipt.new.tx.at (here g at) (state_with c.args.entry.now) c.from_residual-in_err-raise_next_receipt.result
          c.from_residual-in_err-raise_next_receipt.ensures.0 c.drop-tx-in_err-raise_next_receipt.ensures.survives
          c.drop-tx-in_err-raise_next_receipt.ensures.undone;
    }

pub returns-then-branch-eq0 : goal.returns-then-branch-eq0
returns-then-branch-eq0 g c =
    let at = (goal.at.returns-then-branch-eq0 g c).After-raise_next_receipt in
    record {
      added = drops g.S.Store c.args.conn.now c.in_ok-tx.tx.conn.now c.in_ok-tx.tx.at c.in_ok-tx.ensures.ok c.in_ok-tx.ensures.survives
          (state g.S.Store c.raise_next_receipt.new.tx.conn.now)
          (inside g at) c.drop-tx-then-branch-eq0.new.self.0 c.conn-then-branch-eq0-1.given.0 (search rules)
          c.raise_next_receipt.new.tx.at (here g at) (state_with c.args.entry.now) (Err QueryReturnedNoRows) refl
          c.drop-tx-then-branch-eq0.ensures.survives c.drop-tx-then-branch-eq0.ensures.undone;
    }

pub returns-in_err-commit : goal.returns-in_err-commit
returns-in_err-commit g c =
    let done = (goal.at.returns-in_err-commit g c).After-commit in
    let at = (goal.at.After-commit g done).After-raise_next_receipt in
    record {
      added = fails_to_commit g.S.Store c.args.conn.now c.in_ok-tx.tx.conn.now c.in_ok-tx.tx.at c.in_ok-tx.ensures.ok c.in_ok-tx.ensures.survives
          (state g.S.Store c.raise_next_receipt.new.tx.conn.now) (inside g at) c.commit.new.self.0 c.conn-2-1.given.0 (search rules)
          c.raise_next_receipt.new.tx.at (here g at) (state_with c.args.entry.now) c.from_residual-in_err-commit.result _
          c.from_residual-in_err-commit.ensures.0 c.commit.ensures.survives (added g done) c.in_ok-raise_next_receipt.ensures.inside
          c.in_err-commit.ensures.err;
    }

pub returns : goal.returns
returns g c =
    let done = (goal.at.returns g c).After-commit in
    let at = (goal.at.After-commit g done).After-raise_next_receipt in
    record {
      added = commits g.S.Store c.args.conn.now c.in_ok-tx.tx.conn.now c.in_ok-tx.tx.at c.in_ok-tx.ensures.ok c.in_ok-tx.ensures.survives
          (state g.S.Store c.raise_next_receipt.new.tx.conn.now) (inside g at) c.commit.new.self.0 c.conn-2-1.given.0 (search rules)
          c.raise_next_receipt.new.tx.at (here g at) (state_with c.args.entry.now) tt c.commit.ensures.survives (added g done)
          c.in_ok-raise_next_receipt.ensures.inside c.in_ok-commit.ensures.ok
          (λ db opened may. g.met.S.Store.settled c.commit.new.self.0.store db opened may);
    }
