use Rattle.std.proofs.Common.{◌∙◌}
use Rattle.as2_parts.proofs.Faults.{fault_is}
use Rattle.as2_parts.proofs.TwoParts.{found_if, again}
use Rattle.as2_parts.proofs.parts.two_parts.Goals as goal

pub returns-clause-found : goal.returns-clause-found
returns-clause-found c = found_if c.args.boundary.now c.args.body.now c.read_parts.result c.read_parts.ensures

pub returns-clause-only : goal.returns-clause-only
returns-clause-only c first second t = c.read_parts.ensures ∙ again c.args.boundary.now c.args.body.now first second t

pub returns-clause-fault : goal.returns-clause-fault
returns-clause-fault c = fault_is c.args.boundary.now c.args.body.now c.read_parts.result c.read_parts.ensures
