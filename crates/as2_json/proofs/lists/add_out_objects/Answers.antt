use Rattle.std.proofs.Common.{◌∙◌, ◌++◌, ap, arith}
use Rattle.std.proofs.lemmas.List.{take_all}
use Rattle.as2_json.proofs.Endings.{marked_lines}
use Rattle.as2_json.proofs.lists.add_out_objects.Goals as goal

pub returns : goal.returns
returns c up =
    let rows = c.args.rows.now in
    let settled = c.args.settled.now in
    c.loop-row.invariant up ∙ ap (λ l. c.args.text.now.items ++ l) (rw (take_all c.loop-row.row-index rows (omega arith)) (marked_lines settled rows))
