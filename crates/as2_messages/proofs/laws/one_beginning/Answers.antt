use Rattle.as2_messages.proofs.Alone.{never_refuses_requests, never_opens_requests, never_opens_refused}
use Rattle.as2_messages.proofs.laws.one_beginning.Goals as goal

pub returns-clause-never_refused : goal.returns-clause-never_refused
returns-clause-never_refused c = never_refuses_requests

pub returns-clause-never_open : goal.returns-clause-never_open
returns-clause-never_open c = never_opens_requests

pub returns-clause-refused_for_good : goal.returns-clause-refused_for_good
returns-clause-refused_for_good c = never_opens_refused
