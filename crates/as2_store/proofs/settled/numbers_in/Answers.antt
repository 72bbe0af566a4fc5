use Rattle.std.proofs.Common.{◌≡◌, ◌∙◌, ◌<◌, ◌++◌, [], ◌∷◌, length, take_all, sym, ap, ap₂, arith, rules}
use Rattle.std.proofs.lemmas.List.{length-map, take_more}
use Rattle.sqlite.specs.Order.{column}
use Rattle.as2_store.specs.Due.{number_row}
use Rattle.as2_store.proofs.PassedTables.{number_here}
use Rattle.as2_store.proofs.settled.numbers_in.Goals as goal

pub rows-preserved : goal.rows-preserved
rows-preserved c ns all =
    let i = c.rows.row-index in
    let within : i < length ns = omega (arith, c.rows-test.true, ap length all, length-map ns number_row) in
    let shown = number_here c.args.rows.now ns i c.row-item.result c.in_ok-number.number all c.rows-test.true
    (ap (λ r. column r 0) (sym c.row-item.is) ∙ c.in_ok-number.ensures.ok.1) in
    let pushed : c.push.new.self.items ≡ c.rows.numbers.items ++ c.in_ok-number.number ∷ [] = search rules in
    pushed ∙ ap₂ (λ l n. l ++ n ∷ []) (c.rows.invariant ns all) shown ∙ sym (take_more ns i 0 within)

pub returns : goal.returns
returns c ns all = c.rows.invariant ns all ∙ take_all c.rows.row-index ns (omega (arith, c.rows-test.false, ap length all, length-map ns number_row))
