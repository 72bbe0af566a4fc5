use Rattle.as2_exchange.proofs.Resending.{failed_resent}
use Rattle.as2_exchange.proofs.only_failed_documents_are_resent.Goals as goal

pub returns : goal.returns
returns c = failed_resent
