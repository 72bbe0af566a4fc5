use Rattle.std.proofs.Common.{ap}
use Rattle.sqlite.specs.Held.{state}
use Rattle.as2_kept.proofs.Writing.{idle_if, ticked, write_alone}
use Rattle.as2_kept.proofs.KeptRecords.expire.Goals as goal

pub returns-clause-passed : goal.returns-clause-passed
returns-clause-passed g c =
    write_alone _ _ _ _ _ (ap (state g.S.Store) c.self.view_is) (idle_if c.is_alone.result _ c.if-not-is_alone.false c.is_alone.ensures)
    c.expire.ensures.passed

pub returns-clause-counted : goal.returns-clause-counted
returns-clause-counted g c = λ clean. ticked _ _ _ c.expire.result (ap (state g.S.Store) c.self.view_is) (c.expire.ensures.counted clean)
