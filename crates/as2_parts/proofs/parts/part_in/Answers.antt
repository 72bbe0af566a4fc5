use Rattle.std.proofs.Common.{sym, ◌∙◌}
use Rattle.as2_parts.proofs.Marking.{head_on, head_ends}
use Rattle.as2_parts.proofs.parts.part_in.Goals as goal

pub loop-rest-preserved : goal.loop-rest-preserved
loop-rest-preserved c = head_on c.args.text.now c.loop-rest.length c.loop-rest.rest.now c.first_line.result.0.now c.first_line.result.1.now
    (sym c.is_empty_line.ensures ∙ c.if-is_empty_line.false) c.first_line.ensures.first c.first_line.ensures.whole c.loop-rest.invariant

pub returns-then-is_empty_line : goal.returns-then-is_empty_line
returns-then-is_empty_line c =
    head_ends c.args.text.now c.loop-rest.length c.loop-rest.rest.now c.first_line.result.0.now c.first_line.result.1.now
    (sym c.is_empty_line.ensures ∙ c.if-is_empty_line.true) c.first_line.ensures.first c.loop-rest.invariant
