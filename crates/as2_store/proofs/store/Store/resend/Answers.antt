use Rattle.std.proofs.Common.{ap}
use Rattle.sqlite.specs.Held.{state}
use Rattle.as2_store.proofs.ReadsBy.{write_of, write_told}
use Rattle.as2_store.proofs.SetTables.{queued}
use Rattle.as2_store.proofs.store.Store.resend.Goals as goal

pub returns-clause-resent : goal.returns-clause-resent
returns-clause-resent g c =
    let set = rw c.seconds.ensures.seconds at c.set.ensures.set in
    write_of _ _ _ _ _ (ap (state g.S.Store) c.self.view_is)
    (write_told _ _ _ _ c.map_err.result _ c.map_err.ensures.cases (queued c.args.number c.args.moment _ _ _ set))
