use Rattle.std.proofs.Common.{◌∙◌, sym, subst, ap₂}
use Rattle.as2_store.specs.Discrepancies.{Compares, lower}
use Rattle.as2_store.proofs.DifferingRows.{compares}
use Rattle.as2_store.proofs.discrepancies.difference.Goals as goal

pub returns : goal.returns
returns c =
    subst (Compares c.args.wanted.now c.args.kept.now) (sym (c.lower_row.ensures ∙ ap₂ lower c.row_at.ensures c.row_at-2.ensures))
    (compares c.args.wanted.now c.args.kept.now c.alike-at.result c.alike-at.ensures.before c.alike-at.ensures.there)
