use Rattle.std.proofs.Common.{inr, refl}
use Rattle.as2_desk.proofs.migrating.migrate.Goals as goal

-- it stays as it is
pub returns-in-Err-clause-migrates : goal.returns-in-Err-clause-migrates
returns-in-Err-clause-migrates g c = (
  c.migrated.ensures.counted,
  inr (c.in-Err.ensures.same, c.in-Err.ensures.earlier, refl, record { fault = c.in-Err.fault; cause = c.in-Err.ensures.fault; told = c.refuse.ensures.told }),
)
