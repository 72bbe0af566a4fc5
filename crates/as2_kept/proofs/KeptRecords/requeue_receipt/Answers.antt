use Rattle.std.proofs.Common.{ap}
use Rattle.sqlite.specs.Held.{state}
use Rattle.as2_kept.proofs.Writing.{idle_if, write_alone}
use Rattle.as2_kept.proofs.KeptRecords.requeue_receipt.Goals as goal

pub returns-clause-requeued : goal.returns-clause-requeued
returns-clause-requeued g c =
    write_alone _ _ _ _ _ (ap (state g.S.Store) c.self.view_is) (idle_if c.is_alone.result _ c.if-not-is_alone.false c.is_alone.ensures)
    c.requeue_receipt.ensures.requeued
