use Rattle.as2_exchange.proofs.Runs.{as_submitted}
use Rattle.as2_exchange.proofs.documents_stay_as_submitted.Goals as goal

pub returns : goal.returns
returns c = as_submitted
