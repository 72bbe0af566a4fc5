use Rattle.as2_exchange.proofs.Runs.{waiting_law}
use Rattle.as2_exchange.proofs.waiting_by_history.Goals as goal

pub returns : goal.returns
returns c = waiting_law
