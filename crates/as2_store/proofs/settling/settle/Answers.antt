-- `settle`, exit by exit: one of the statements failed, no document has the number, the commit failed, committed. What the statements make of the
-- tables is `ends` (SettledTables.antt); the ends of a call are lemmas of Marking.antt.
use Rattle.std.proofs.Common.{◌≡◌, ◌∙◌, ◌+◌, rules, refl, sym, subst, Err}
use Rattle.sqlite.specs.Held.{state}
use Rattle.sqlite.specs.State.{State as Connected, HasCleanDisk}
use Rattle.sqlite.specs.declared.error.Error.TheVariants.{QueryReturnedNoRows}
use Rattle.as2_records.specs.Settling.{settled_in}
use Rattle.as2_store.proofs.SettledTables.{ends}
use Rattle.as2_store.specs.Calls.{IsInside}
use Rattle.as2_store.proofs.Committing.{inside_then}
use Rattle.as2_store.proofs.Marking.{Follows, commits, drops, fails_to_commit}
use Rattle.as2_store.proofs.settling.settle.Given.{Over}
use Rattle.as2_store.proofs.settling.settle.Goals.{After-put_evidence, After-take_document, After-commit}
use Rattle.as2_store.proofs.settling.settle.Goals as goal

-- the first two statements ran
second_ran : (g : Over) (c : After-put_evidence g)
    → IsInside (c.in_ok-tx.tx.at + 1) (state g.S.Store c.in_ok-tx.tx.conn.now) (state g.S.Store c.put_evidence.new.tx.conn.now)
second_ran g c = inside_then _ (state g.S.Store c.set_settled.new.tx.conn.now) (state g.S.Store c.put_evidence.new.tx.conn.now) c.set_settled.ensures.within
    (subst (λ at. IsInside (at + 1) (state g.S.Store c.set_settled.new.tx.conn.now)
    (state g.S.Store c.put_evidence.new.tx.conn.now)) c.set_settled.ensures.place c.put_evidence.ensures.within)

-- in the same savepoint
second_place : (g : Over) (c : After-put_evidence g) → c.put_evidence.new.tx.at ≡ c.in_ok-tx.tx.at
second_place g c = c.put_evidence.ensures.place ∙ c.set_settled.ensures.place

-- and so did the third
third_ran : (g : Over) (c : After-take_document g)
    → IsInside (c.in_ok-tx.tx.at + 1) (state g.S.Store c.in_ok-tx.tx.conn.now) (state g.S.Store c.take_document.new.tx.conn.now)
third_ran g c = inside_then _ (state g.S.Store c.put_evidence.new.tx.conn.now) (state g.S.Store c.take_document.new.tx.conn.now)
    (second_ran g (goal.at.After-take_document g c).After-put_evidence)
    (subst (λ at. IsInside (at + 1) (state g.S.Store c.put_evidence.new.tx.conn.now) (state g.S.Store c.take_document.new.tx.conn.now))
    (second_place g (goal.at.After-take_document g c).After-put_evidence) c.take_document.ensures.within)

-- in the same savepoint
third_place : (g : Over) (c : After-take_document g) → c.take_document.new.tx.at ≡ c.in_ok-tx.tx.at
third_place g c = c.take_document.ensures.place ∙ second_place g (goal.at.After-take_document g c).After-put_evidence

settled : (g : Over) (c : After-commit g) → HasCleanDisk (state g.S.Store c.take_document.new.tx.conn.now)
    → Follows (state g.S.Store c.in_ok-tx.tx.conn.now) (state g.S.Store c.take_document.new.tx.conn.now)
    (settled_in c.args.number c.args.detail c.args.evidence.now)
settled g c =
    ends (state g.S.Store c.in_ok-tx.tx.conn.now) (state g.S.Store c.set_settled.new.tx.conn.now) (state g.S.Store c.put_evidence.new.tx.conn.now)
    (state g.S.Store c.take_document.new.tx.conn.now)
    c.args.number c.asked-wanted.result c.args.detail c.args.evidence.now c.requires.by_receipt
    c.asked-wanted.ensures.beyond c.asked-wanted.ensures.within _ c.if-branch-eq0.false c.put_evidence.ensures.within.clean
    c.take_document.ensures.within.clean c.in_ok-set_settled.ensures.open c.in_ok-set_settled.ensures.put c.in_ok-put_evidence.ensures.put
    c.in_ok-take_document.ensures.put

pub returns-in_err-set_settled : goal.returns-in_err-set_settled
returns-in_err-set_settled g c =
    record {
      settled = drops g.S.Store c.args.conn.now c.in_ok-tx.tx.conn.now c.in_ok-tx.tx.at c.in_ok-tx.ensures.ok c.in_ok-tx.ensures.survives
          (state g.S.Store c.set_settled.new.tx.conn.now) c.set_settled.ensures.within c.drop-tx.new.self.0 c.conn-in_err-set_settled-1.given.0
          (search rules) c.set_settled.new.tx.at c.set_settled.ensures.place
          (settled_in c.args.number c.args.detail c.args.evidence.now) c.from_residual-in_err-set_settled.result
          c.from_residual-in_err-set_settled.ensures.0 c.drop-tx.ensures.survives c.drop-tx.ensures.undone;
    }

pub returns-then-branch-eq0 : goal.returns-then-branch-eq0
returns-then-branch-eq0 g c =
    record {
      settled = drops g.S.Store c.args.conn.now c.in_ok-tx.tx.conn.now c.in_ok-tx.tx.at c.in_ok-tx.ensures.ok c.in_ok-tx.ensures.survives
          (state g.S.Store c.set_settled.new.tx.conn.now) c.set_settled.ensures.within c.drop-tx-then-branch-eq0.new.self.0
          c.conn-then-branch-eq0-1.given.0 (search rules) c.set_settled.new.tx.at c.set_settled.ensures.place
          (settled_in c.args.number c.args.detail c.args.evidence.now)
          (Err QueryReturnedNoRows) refl c.drop-tx-then-branch-eq0.ensures.survives c.drop-tx-then-branch-eq0.ensures.undone;
    }

pub returns-in_err-put_evidence : goal.returns-in_err-put_evidence
returns-in_err-put_evidence g c =
    let at = (goal.at.returns-in_err-put_evidence g c).After-put_evidence in
    record {
      settled = drops g.S.Store c.args.conn.now c.in_ok-tx.tx.conn.now c.in_ok-tx.tx.at c.in_ok-tx.ensures.ok c.in_ok-tx.ensures.survives
          (state g.S.Store c.put_evidence.new.tx.conn.now)
          (second_ran g at) c.drop-tx-in_err-put_evidence.new.self.0 c.conn-in_err-put_evidence-1.given.0 (search rules) c.put_evidence.new.tx.at
          (second_place g at)
          (settled_in c.args.number c.args.detail c.args.evidence.now) c.from_residual-in_err-put_evidence.result
          c.from_residual-in_err-put_evidence.ensures.0 c.drop-tx-in_err-put_evidence.ensures.survives c.drop-tx-in_err-put_evidence.ensures.undone;
    }

pub returns-in_err-take_document : goal.returns-in_err-take_document
returns-in_err-take_document g c =
    let at = (goal.at.returns-in_err-take_document g c).After-take_document in
    record {
      settled = drops g.S.Store c.args.conn.now c.in_ok-tx.tx.conn.now c.in_ok-tx.tx.at c.in_ok-tx.ensures.ok c.in_ok-tx.ensures.survives
          (state g.S.Store c.take_document.new.tx.conn.now)
          (third_ran g at) c.drop-tx-in_err-take_document.new.self.0 c.conn-in_err-take_document-1.given.0
          (sym (c.conn-in_err-take_document-1.given.1
          (sym (c.take_document.ensures.same_reference ∙ c.put_evidence.ensures.same_reference ∙ c.set_settled.ensures.same_reference
          ∙ c.in_ok-tx.ensures.same_reference)))) c.take_document.new.tx.at (third_place g at)
          (settled_in c.args.number c.args.detail c.args.evidence.now) c.from_residual-in_err-take_document.result
          c.from_residual-in_err-take_document.ensures.0 c.drop-tx-in_err-take_document.ensures.survives c.drop-tx-in_err-take_document.ensures.undone;
    }

pub returns-in_err-commit : goal.returns-in_err-commit
returns-in_err-commit g c =
    let done = (goal.at.returns-in_err-commit g c).After-commit in
    let at = (goal.at.After-commit g done).After-take_document in
    record {
      settled = fails_to_commit g.S.Store c.args.conn.now c.in_ok-tx.tx.conn.now c.in_ok-tx.tx.at c.in_ok-tx.ensures.ok c.in_ok-tx.ensures.survives
          (state g.S.Store c.take_document.new.tx.conn.now) (third_ran g at) c.commit.new.self.0 c.conn-2-1.given.0
          (sym (c.conn-2-1.given.1
          (sym (c.take_document.ensures.same_reference ∙ c.put_evidence.ensures.same_reference ∙ c.set_settled.ensures.same_reference
          ∙ c.in_ok-tx.ensures.same_reference)))) c.take_document.new.tx.at (third_place g at)
          (settled_in c.args.number c.args.detail c.args.evidence.now) c.from_residual-in_err-commit.result _
          c.from_residual-in_err-commit.ensures.0 c.commit.ensures.survives (settled g done)
          c.in_ok-take_document.ensures.inside c.in_err-commit.ensures.err;
    }

pub returns : goal.returns
returns g c =
    let done = (goal.at.returns g c).After-commit in
    let at = (goal.at.After-commit g done).After-take_document in
    record {
      settled = commits g.S.Store c.args.conn.now c.in_ok-tx.tx.conn.now c.in_ok-tx.tx.at c.in_ok-tx.ensures.ok c.in_ok-tx.ensures.survives
          (state g.S.Store c.take_document.new.tx.conn.now) (third_ran g at) c.commit.new.self.0 c.conn-2-1.given.0
          (sym (c.conn-2-1.given.1
          (sym (c.take_document.ensures.same_reference ∙ c.put_evidence.ensures.same_reference ∙ c.set_settled.ensures.same_reference
          ∙ c.in_ok-tx.ensures.same_reference)))) c.take_document.new.tx.at (third_place g at)
          (settled_in c.args.number c.args.detail c.args.evidence.now) tt c.commit.ensures.survives (settled g done) c.in_ok-take_document.ensures.inside
          c.in_ok-commit.ensures.ok (λ db opened may. g.met.S.Store.settled c.commit.new.self.0.store db opened may);
    }
