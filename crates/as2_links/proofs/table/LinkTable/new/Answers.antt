use Rattle.as2_links.proofs.Standing.{vacant}
use Rattle.as2_links.proofs.table.LinkTable.new.Goals as goal

pub returns-clause-stands : goal.returns-clause-stands
returns-clause-stands c = vacant _ c.loop.counter c.loop.invariant
