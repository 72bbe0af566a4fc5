use Rattle.std.proofs.Common.{◌≡◌, ◌+◌, ◌++◌, ◌∷◌, [], Ok, arith, ap, length-append, refl, rules, ◌∙◌}
use Rattle.toml.specs.View.{view}
use Rattle.as2_agreement.specs.Reading.{partner}
use Rattle.as2_agreement.proofs.Going.{faulty_next}
use Rattle.as2_agreement.proofs.places.faulty_partner.Goals as goal

pub loop-entry-preserved : goal.loop-entry-preserved
loop-entry-preserved c =
    let i = c.loop-entry.entry-index in
    let read : partner c.args.organizations.now c.loop-entry.kept.items (view c.entry-item.result) ≡ Ok c.in-Ok.next =
    rw c.deref.ensures.value at (c.in-Ok.ensures) in
    let going = faulty_next (partner c.args.organizations.now) c.loop-entry.kept.items c.args.entries.now i c.entry-item.result c.loop-entry-test.true c.entry-item.is (1 + i) (1 + (i + 1)) c.in-Ok.next (omega arith) read in
    let pushed : c.push.new.self.items ≡ c.loop-entry.kept.items ++ c.in-Ok.next ∷ [] = search rules in (
      c.loop-entry.invariant.0 ∙ going ∙ rw pushed refl,
      rw pushed (length-append c.loop-entry.kept.items (c.in-Ok.next ∷ []) ∙ ap (λ k. k + 1) c.loop-entry.invariant.1),
    )
