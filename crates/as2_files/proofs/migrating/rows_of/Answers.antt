use Rattle.std.proofs.Common.{◌≡◌, [], true, refl, rules, subst}
use Rattle.sqlite.specs.Held.{state}
use Rattle.as2_store.proofs.Querying.{queried_inside}
use Rattle.as2_store.specs.Calls.{IsGivenBack}
use Rattle.as2_files.proofs.Earlier.{given_up}
use Rattle.as2_files.proofs.migrating.rows_of.Goals as goal

-- the transaction was given up
pub returns-clause-given_back : goal.returns-clause-given_back
returns-clause-given_back g c =
    let old = c.args.conn.now in
    let begun = state g.S.Store (record old { in_transaction = true }) in
    let mid = state g.S.Store c.query_all.new.self.conn.now in
    let inside = queried_inside {held = 0} (λ rows. rows.items) c.args.query.now [] begun mid c.query_all.result (λ clean. refl)
    (rw c.transaction-tx.ensures.begun at c.query_all.ensures.ok) (rw c.transaction-tx.ensures.begun at c.query_all.ensures.err)
    (rw c.transaction-tx.ensures.begun at c.query_all.ensures.survives) in
    let end = c.drop-tx.new.self.0 in
    let same : end ≡ c.conn-1.given.0 = search rules in
    subst (λ h. IsGivenBack (λ _. ⊥) (state g.S.Store old) (state g.S.Store h)) same
    (given_up g.S.Store old mid end inside c.drop-tx.ensures.survives c.drop-tx.ensures.ended c.drop-tx.ensures.undone)
