use Rattle.std.proofs.Common.{Some, refl, arith}
use Rattle.as2_hub.proofs.Standing.{opened}
use Rattle.as2_hub.proofs.Within.{bounded_less, less_set}
use Rattle.as2_hub.proofs.hub.Hub.open.Goals as goal

pub returns-clause-stands : goal.returns-clause-stands
returns-clause-stands c = λ yes h it.
    opened c.args.self.now.talks.items c.args.at c.new.result h
    (omega (arith, c.args.self.now.talks.ok.0)) c.new.ensures.rest c.new.ensures.fresh.empty c.new.ensures.fresh.silent it

pub returns-clause-opens : goal.returns-clause-opens
returns-clause-opens c = λ yes. (c.new.result, c.new.ensures.fresh, refl)

pub returns-clause-bounded : goal.returns-clause-bounded
returns-clause-bounded c =
    let talks = c.args.self.now.talks.items in
    bounded_less c.args.self.now _ refl
    (less_set talks c.args.at (Some c.new.result) (omega (arith, c.args.self.now.talks.ok.0)) (omega (arith, c.new.ensures.fresh.none)))
