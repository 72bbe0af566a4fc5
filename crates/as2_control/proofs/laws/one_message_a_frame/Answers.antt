use Rattle.as2_control.proofs.Messages.{never_both, one_demand, one_outcome}
use Rattle.as2_control.proofs.laws.one_message_a_frame.Goals as goal

pub returns-clause-demand : goal.returns-clause-demand
returns-clause-demand c = one_demand

pub returns-clause-outcome : goal.returns-clause-outcome
returns-clause-outcome c = one_outcome

pub returns-clause-apart : goal.returns-clause-apart
returns-clause-apart c = never_both
