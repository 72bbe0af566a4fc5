use Rattle.std.proofs.Common.{arith, sym, ◌∙◌}
use Rattle.as2_names.proofs.Trims.{stays_first, stays_off_at, stays_on_at}
use Rattle.as2_names.proofs.trim.without_back.Goals as goal
use Rattle.as2_names.proofs.trim.without_back.Goals.{then-not-falls_off, else-not-falls_off}

pub loop-i-init : goal.loop-i-init
loop-i-init c = record { stays = stays_first c.args.text.now; seen = omega arith }

pub loop-i-preserved : goal.loop-i-preserved
loop-i-preserved c =
    elim c.if-not-falls_off.branch [
      | then-not-falls_off w ↦
          let on = stays_on_at c.args.text.now c.loop-i.end c.loop-i.i c.loop-i-test.true
          (sym c.falls_off.ensures ∙ w.if-not-falls_off.true) c.loop-i.invariant.stays in
          rw w.end-is (record { stays = on; seen = omega arith })
      | else-not-falls_off w ↦
          let off = stays_off_at c.args.text.now c.loop-i.end c.loop-i.i c.loop-i-test.true
          (sym c.falls_off.ensures ∙ w.if-not-falls_off.false) c.loop-i.invariant.stays in
          rw w.end-is (record { stays = off; seen = omega (arith, c.loop-i.invariant.seen) })
    ]
