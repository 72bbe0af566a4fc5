use Rattle.std.proofs.Common.{◌≡◌, ◌∙◌, ◌<◌, ◌++◌, [], ◌∷◌, None, Ok, get_or, length, take_all, sym, ap, ap₂, arith, rules}
use Rattle.std.proofs.lemmas.List.{get_or-map, length-map, take_more}
use Rattle.as2_store.specs.Discrepancies.{row_shown, wait_row}
use Rattle.as2_store.proofs.Querying.{told_ok}
use Rattle.as2_store.proofs.discrepancies.read_rows.Goals as goal

pub rows-preserved : goal.rows-preserved
rows-preserved c ws all =
    let i = c.rows.row-index in
    let none = wait_row 0 0 None in
    let within : i < length ws = omega (arith, c.rows-test.true, ap length all, length-map ws row_shown) in
    let here = c.row-item.is ∙ ap (λ l. get_or l i c.row-item.result) all ∙ get_or-map row_shown ws i none c.row-item.result within in
    let told : c.read_row.result ≡ Ok c.in_ok-wait.wait = told_ok _ _ _ _ c.map_err.ensures.cases c.in_ok-wait.was in
    let shown : c.in_ok-wait.wait ≡ get_or ws i none = (rw told at c.read_row.ensures) (get_or ws i none) here in
    let pushed : c.push.new.self.items ≡ c.rows.read.items ++ c.in_ok-wait.wait ∷ [] = search rules in
    pushed ∙ ap₂ (λ l w. l ++ w ∷ []) (c.rows.invariant ws all) shown ∙ sym (take_more ws i none within)

pub returns-clause-shown : goal.returns-clause-shown
returns-clause-shown c ws all = c.rows.invariant ws all
    ∙ take_all c.rows.row-index ws (omega (arith, c.rows-test.false, ap length all, length-map ws row_shown))
