use Rattle.std.proofs.Common.{◌∙◌, ◌++◌, ap, arith}
use Rattle.std.proofs.lemmas.List.{take_all}
use Rattle.as2_json.proofs.Endings.{in_lines}
use Rattle.as2_json.proofs.lists.add_in_objects.Goals as goal

pub returns : goal.returns
returns c =
    let rows = c.args.rows.now in
    c.loop-row.invariant ∙ ap (λ l. c.args.text.now.items ++ l) (rw (take_all c.loop-row.row-index rows (omega arith)) (in_lines rows))
