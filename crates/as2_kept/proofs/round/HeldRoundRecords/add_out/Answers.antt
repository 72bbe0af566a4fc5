use Rattle.as2_kept.proofs.Writing.{write_held}
use Rattle.as2_kept.proofs.round.HeldRoundRecords.add_out.Goals as goal

pub returns-clause-added : goal.returns-clause-added
returns-clause-added g c =
    let held = c.is_held.ensures c.if-not-is_held.false in
    write_held _ held.0 _ _ _ _ held.1 c.add_out.ensures.added
