use Rattle.std.proofs.Common.{◌≡◌, ◌∙◌, ◌==◌, true, false, not, nat_le, sym, ap, arith}
use Rattle.std.proofs.lemmas.Bool.Decides.{nat_tests}
use Rattle.sqlite.specs.Held.{state}
use Rattle.as2_store.proofs.ReadsBy.{mapped}
use Rattle.as2_store.proofs.ResentTables.{some_rows, tells_by_row, tells_by_tries}
use Rattle.as2_store.proofs.resending.begun_in.Goals as goal

pub returns-then-row-ge1-clause-begun : goal.returns-then-row-ge1-clause-begun
returns-then-row-ge1-clause-begun g c =
    let tried : nat_le 1 c.args.row.now.tries ≡ true = grind (arith, nat_tests, c.if-row-ge1.true) in
    tells_by_tries c.args.row.now.number c.args.row.now.tries (state g.S.Store c.args.conn.now) c.requires.open tried

pub returns-clause-begun : goal.returns-clause-begun
returns-clause-begun g c =
    let old = state g.S.Store c.args.conn.now in
    let new = state g.S.Store c.resent_rows.new.conn in
    let untried : nat_le 1 c.args.row.now.tries ≡ false = grind (arith, nat_tests, c.if-row-ge1.false) in
    tells_by_row c.args.row.now.number c.args.row.now.tries old new c.in_ok-rows.rows (not c.is_empty.result) untried
    (ap not c.is_empty.ensures ∙ ap (λ k. not (k == 0)) c.in_ok-rows.rows.ok.0 ∙ sym (some_rows c.in_ok-rows.rows.items))
    (mapped _ old new c.resent_rows.result c.map_err.result _ c.in_ok-rows.rows c.map_err.ensures.cases c.in_ok-rows.was c.resent_rows.ensures.rows)
