use Rattle.as2_exchange.proofs.Ticking.{ticked_counts}
use Rattle.as2_exchange.proofs.ticks_are_counted.Goals as goal

pub returns : goal.returns
returns c = ticked_counts
