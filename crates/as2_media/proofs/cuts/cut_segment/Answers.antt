use Rattle.std.proofs.Common.{rules, ◌≡◌, false, true, arith, subst, sym, ◌∙◌}
use Rattle.as2_names.proofs.CutLists.{Cuts}
use Rattle.as2_media.specs.Cuts.{segments}
use Rattle.as2_media.specs.declared.cuts.Place.TheVariants.{Outside}
use Rattle.as2_media.proofs.Segments.{scan_on, scan_ends, scan_all}
use Rattle.as2_media.proofs.cuts.cut_segment.Goals as goal
use Rattle.as2_media.proofs.cuts.cut_segment.Goals.{else-eq-via-then-eq+else-b-eq59, else-eq-via-else-eq}

pub returns-then-b-eq59 : goal.returns-then-b-eq59
returns-then-b-eq59 c = scan_ends c.loop-i.place c.args.text.now c.loop-i.i c.loop-i-test.true (search rules) c.if-b-eq59.true c.loop-i.invariant

pub loop-i-preserved : goal.loop-i-preserved
loop-i-preserved c =
    rw c.next-place.ensures (scan_on c.loop-i.place c.args.text.now c.loop-i.i c.loop-i-test.true (elim c.else-eq.branch [
      | else-eq-via-then-eq+else-b-eq59 w ↦ λ outside. w.if-b-eq59.false
      | else-eq-via-else-eq w ↦ λ outside end. let e : false ≡ true = rw outside at (sym w.if-eq.false ∙ c.eq.ensures) in cc
    ]) c.loop-i.invariant)

pub returns : goal.returns
returns c = scan_all c.loop-i.place c.args.text.now
    (subst (Cuts (segments Outside c.args.text.now) (segments c.loop-i.place) c.args.text.now)
    (omega (arith, c.loop-i-test.false, c.loop-i.auto.i-end)) c.loop-i.invariant)
