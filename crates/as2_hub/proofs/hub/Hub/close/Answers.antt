use Rattle.std.proofs.Common.{None, refl, arith}
use Rattle.as2_hub.proofs.Standing.{closed, closed_past}
use Rattle.as2_hub.proofs.Within.{bounded_less, less_set}
use Rattle.as2_hub.proofs.hub.Hub.close.Goals as goal

pub returns-then-at-len-clause-stands : goal.returns-then-at-len-clause-stands
returns-then-at-len-clause-stands c = λ h it. closed c.args.self.now.talks.items c.args.at h (omega (arith, c.args.self.now.talks.ok.0)) it

pub returns-else-at-len-clause-stands : goal.returns-else-at-len-clause-stands
returns-else-at-len-clause-stands c = λ h it. closed_past c.args.self.now.talks.items c.args.at h (omega (arith, c.args.self.now.talks.ok.0)) it

pub returns-then-at-len-clause-bounded : goal.returns-then-at-len-clause-bounded
returns-then-at-len-clause-bounded c =
    bounded_less c.args.self.now _ refl (less_set c.args.self.now.talks.items c.args.at None (omega (arith, c.args.self.now.talks.ok.0)) (omega arith))
