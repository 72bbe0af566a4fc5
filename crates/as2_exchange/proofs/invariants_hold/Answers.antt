use Rattle.as2_exchange.proofs.States.{formed}
use Rattle.as2_exchange.proofs.invariants_hold.Goals as goal

pub returns : goal.returns
returns c = formed
