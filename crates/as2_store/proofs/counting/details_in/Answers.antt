use Rattle.std.proofs.Common.{◌≡◌, ◌∙◌, ◌<◌, ◌++◌, [], ◌∷◌, get_or, length, take_all, sym, ap, ap₂, arith, rules}
use Rattle.std.proofs.lemmas.List.{get_or-map, length-map, take_more}
use Rattle.as2_mdn.specs.declared.detail.Detail.TheVariants.{New}
use Rattle.as2_store.specs.Counting.{detail_row}
use Rattle.as2_store.proofs.counting.details_in.Goals as goal

pub rows-preserved : goal.rows-preserved
rows-preserved c ds all =
    let i = c.rows.row-index in
    let within : i < length ds = omega (arith, c.rows-test.true, ap length all, length-map ds detail_row) in
    let here = c.row-item.is ∙ ap (λ l. get_or l i c.row-item.result) all ∙ get_or-map detail_row ds i New c.row-item.result within in
    let shown : c.in_ok-detail.detail ≡ get_or ds i New = c.in_ok-detail.ensures.shown (get_or ds i New) here in
    let pushed : c.push.new.self.items ≡ c.rows.details.items ++ c.in_ok-detail.detail ∷ [] = search rules in
    pushed ∙ ap₂ (λ l d. l ++ d ∷ []) (c.rows.invariant ds all) shown ∙ sym (take_more ds i New within)

pub returns-clause-shown : goal.returns-clause-shown
returns-clause-shown c ds all = c.rows.invariant ds all
    ∙ take_all c.rows.row-index ds (omega (arith, c.rows-test.false, ap length all, length-map ds detail_row))
