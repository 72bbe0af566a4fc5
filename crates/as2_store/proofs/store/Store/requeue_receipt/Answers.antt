use Rattle.std.proofs.Common.{ap}
use Rattle.sqlite.specs.Held.{state}
use Rattle.as2_records.specs.Requeuing.{requeued_in}
use Rattle.as2_store.proofs.ReadsBy.{write_of, write_told}
use Rattle.as2_store.proofs.store.Store.requeue_receipt.Goals as goal

pub returns-clause-requeued : goal.returns-clause-requeued
returns-clause-requeued g c =
    write_of _ _ _ _ _ (ap (state g.S.Store) c.self.view_is)
    (write_told (requeued_in c.args.number c.args.moment) _ _ _ c.map_err.result _ c.map_err.ensures.cases
    (rw c.seconds.ensures.seconds at c.set.ensures.set))
