use Rattle.std.proofs.Common.{arith, refl, subst}
use Rattle.as2_parts.specs.Lines.{lines}
use Rattle.as2_names.proofs.CutLists.{Cuts, cuts_end}
use Rattle.as2_parts.proofs.Cutting.{lines_on, lines_cut}
use Rattle.as2_parts.proofs.lines.first_line.Goals as goal

pub loop-i-preserved : goal.loop-i-preserved
loop-i-preserved c = lines_on c.args.text.now c.loop-i.i c.loop-i-test.true c.if-b-eq10.false c.loop-i.invariant

pub returns-then-b-eq10-clause-first : goal.returns-then-b-eq10-clause-first
returns-then-b-eq10-clause-first c =
    rw (c.split_at.ensures.front, c.split_at.ensures.back) (lines_cut c.args.text.now c.loop-i.i c.loop-i-test.true c.if-b-eq10.true c.loop-i.invariant)

pub returns-clause-first : goal.returns-clause-first
returns-clause-first c =
    rw (c.split_at-2.ensures.front, c.split_at-2.ensures.back)
    (cuts_end (lines c.args.text.now) lines c.args.text.now refl c.requires
    (subst (Cuts (lines c.args.text.now) lines c.args.text.now) (omega (arith, c.loop-i-test.false, c.loop-i.auto.i-end)) c.loop-i.invariant))
