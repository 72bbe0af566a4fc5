use Rattle.as2_store.proofs.Single.{one_at_most, one_kept}
use Rattle.as2_store.proofs.laws.one_state_stands.Goals as goal

pub returns-clause-tables : goal.returns-clause-tables
returns-clause-tables c = one_at_most

pub returns-clause-left : goal.returns-clause-left
returns-clause-left c = one_kept
