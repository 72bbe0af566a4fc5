use Rattle.as2_exchange.proofs.Success.{success_confirmed, class_of_success}
use Rattle.as2_exchange.proofs.success_is_confirmed.Goals as goal

pub returns-clause-confirmed : goal.returns-clause-confirmed
returns-clause-confirmed c = success_confirmed

pub returns-clause-state : goal.returns-clause-state
returns-clause-state c = class_of_success
