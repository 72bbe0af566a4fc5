use Rattle.as2_kept.proofs.Writing.{write_held}
use Rattle.as2_kept.proofs.round.HeldRoundRecords.settle.Goals as goal

pub returns-clause-settled : goal.returns-clause-settled
returns-clause-settled g c =
    let held = c.is_held.ensures c.if-not-is_held.false in
    write_held _ held.0 _ _ _ _ held.1 c.settle.ensures.settled
