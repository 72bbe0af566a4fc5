use Rattle.std.proofs.Common.{arith, refl, subst, sym, ◌∙◌}
use Rattle.as2_parts.specs.Fields.{folded_lines}
use Rattle.as2_names.proofs.CutLists.{Cuts, cuts_end}
use Rattle.as2_parts.proofs.Cutting.{cut_here, no_cut_before_blank, no_cut_elsewhere, folded_on, folded_cut}
use Rattle.as2_parts.proofs.fields.first_folded_line.Goals as goal
use Rattle.as2_parts.proofs.fields.first_folded_line.Goals.{else-b-eq10-via-then-b-eq10+else-not-begins_with_blank, else-b-eq10-via-else-b-eq10}

pub loop-i-preserved : goal.loop-i-preserved
loop-i-preserved c =
    elim c.else-b-eq10.branch [
      | else-b-eq10-via-then-b-eq10+else-not-begins_with_blank w ↦
          folded_on c.args.text.now c.loop-i.i c.loop-i-test.true
          (no_cut_before_blank c.args.text.now c.loop-i.i (sym w.begins_with_blank.ensures ∙ w.if-not-begins_with_blank.false)) c.loop-i.invariant
      | else-b-eq10-via-else-b-eq10 w ↦
          folded_on c.args.text.now c.loop-i.i c.loop-i-test.true (no_cut_elsewhere c.args.text.now c.loop-i.i w.if-b-eq10.false) c.loop-i.invariant
    ]

pub returns-then-not-begins_with_blank-clause-first : goal.returns-then-not-begins_with_blank-clause-first
returns-then-not-begins_with_blank-clause-first c =
    let cut = cut_here c.args.text.now c.loop-i.i c.if-b-eq10.true (sym c.begins_with_blank.ensures ∙ c.if-not-begins_with_blank.true) in
    rw (c.split_at.ensures.front, c.split_at.ensures.back) (folded_cut c.args.text.now c.loop-i.i c.loop-i-test.true cut c.loop-i.invariant)

pub returns-clause-first : goal.returns-clause-first
returns-clause-first c =
    rw (c.split_at-2.ensures.front, c.split_at-2.ensures.back)
    (cuts_end (folded_lines c.args.text.now) folded_lines c.args.text.now refl c.requires
    (subst (Cuts (folded_lines c.args.text.now) folded_lines c.args.text.now) (omega (arith, c.loop-i-test.false, c.loop-i.auto.i-end)) c.loop-i.invariant))
