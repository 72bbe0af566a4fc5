use Rattle.std.proofs.Common.{arith}
use Rattle.as2_control.proofs.Beginnings.{awaits_bytes, is_whole, never_fits, never_longer, never_opens}
use Rattle.as2_control.proofs.heads.awaited.Goals as goal
use Rattle.as2_control.proofs.heads.awaited.Goals.{then-not-may_open-via-then-not-may_open, then-not-may_open-via-else-not-may_open+then-told-most}

pub returns-then-not-may_open : goal.returns-then-not-may_open
returns-then-not-may_open c = elim c.then-not-may_open.branch [
  | then-not-may_open-via-then-not-may_open w ↦ never_opens c.args.most c.args.came.now (λ opens. cc (c.may_open.ensures.1 opens, w.if-not-may_open.true))
  | then-not-may_open-via-else-not-may_open+then-told-most w ↦
      never_fits c.args.most c.args.came.now c.told_length-told.result (omega arith) c.told_length-told.ensures (omega arith) (omega arith)
]

pub returns-then-came-whole : goal.returns-then-came-whole
returns-then-came-whole c = awaits_bytes c.args.most c.args.came.now c.told_length-told.result (omega arith) (c.may_open.ensures.0 c.if-not-may_open.false)
    c.told_length-told.ensures (omega arith) (omega arith)

pub returns-then-came-whole-2 : goal.returns-then-came-whole-2
returns-then-came-whole-2 c = is_whole c.args.most c.args.came.now c.told_length-told.result (c.may_open.ensures.0 c.if-not-may_open.false)
    c.told_length-told.ensures (omega arith) c.if-came-whole-2.true

pub returns-else-came-whole-2 : goal.returns-else-came-whole-2
returns-else-came-whole-2 c = never_longer c.args.most c.args.came.now c.told_length-told.result (omega arith)
    c.told_length-told.ensures (omega arith) (omega (arith, c.if-came-whole-2.false))
