use Rattle.as2_parts.proofs.Behind.{both_some, both_none}
use Rattle.as2_parts.proofs.marks.behind_boundary.Goals as goal

pub returns-in-Some : goal.returns-in-Some
returns-in-Some c = rw (← c.without_line_end.ensures)
    (both_some c.args.boundary.now c.without_line_end.result.now c.in-Some.rest.now _ c.in-Some.ensures c.behind-in-Some.ensures)

pub returns-in-None : goal.returns-in-None
returns-in-None c = rw (← c.without_line_end.ensures) (both_none c.args.boundary.now c.without_line_end.result.now c.in-None.ensures)
