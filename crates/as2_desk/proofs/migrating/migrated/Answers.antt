use Rattle.std.proofs.Common.{◌∙◌, sym}
use Rattle.as2_desk.proofs.Staying.{stays_in_memory, stays_kept}
use Rattle.as2_desk.proofs.migrating.migrated.Goals as goal

pub returns-then-eq-clause-fault : goal.returns-then-eq-clause-fault
returns-then-eq-clause-fault g c = stays_in_memory c.args.path.now (g.O.OpenStores.stays c.args.stores.now c.args.path.now) (sym c.eq.ensures ∙ c.if-eq.true)

pub returns-clause-fault : goal.returns-clause-fault
returns-clause-fault g c =
    stays_kept c.args.path.now (g.O.OpenStores.stays c.args.stores.now c.args.path.now) c.migrate.result
    (sym c.eq.ensures ∙ c.if-eq.false) c.migrate.ensures.fault
