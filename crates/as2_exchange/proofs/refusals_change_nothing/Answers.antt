use Rattle.as2_exchange.proofs.Refusing.{refused_leaves}
use Rattle.as2_exchange.proofs.refusals_change_nothing.Goals as goal

pub returns : goal.returns
returns c = refused_leaves
