use Rattle.std.proofs.Common.{refl, sym, ◌∙◌}
use Rattle.as2_agreement.specs.Reading.{organization}
use Rattle.as2_agreement.proofs.Going.{each_next}
use Rattle.as2_agreement.proofs.entries.each_organization.Goals as goal

pub loop-entry-preserved : goal.loop-entry-preserved
loop-entry-preserved c =
    let going = each_next organization c.loop-entry.kept.items c.args.entries.now c.loop-entry.entry-index c.entry-item.result c.loop-entry-test.true c.entry-item.is in
    let read = rw c.deref.ensures.value at (sym c.organization.ensures ∙ c.in_ok-next.was) in
    c.loop-entry.invariant ∙ going c.in_ok-next.next read ∙ rw c.in_ok-push.ensures.items refl
