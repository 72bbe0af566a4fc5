use Rattle.as2_exchange.proofs.OwedRuns.{receipts_law}
use Rattle.as2_exchange.proofs.receipts_by_history.Goals as goal

pub returns : goal.returns
returns c = receipts_law
