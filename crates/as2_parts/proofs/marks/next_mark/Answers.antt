use Rattle.std.proofs.Common.{sym, ◌∙◌}
use Rattle.as2_parts.proofs.Marking.{unmarked_on}
use Rattle.as2_parts.proofs.marks.next_mark.Goals as goal

pub loop-rest-preserved : goal.loop-rest-preserved
loop-rest-preserved c = unmarked_on c.args.boundary.now c.args.text.now c.loop-rest.length c.loop-rest.rest.now c.first_line.result.0.now c.first_line.result.1.now (sym c.is_mark.ensures ∙ c.if-is_mark.false) c.first_line.ensures.first c.first_line.ensures.whole c.loop-rest.invariant
