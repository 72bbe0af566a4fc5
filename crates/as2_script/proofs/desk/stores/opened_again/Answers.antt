use Rattle.sqlite.proofs.Callers.{memory_is_clean}
use Rattle.as2_script.proofs.desk.stores.opened_again.Goals as goal

-- they could be read, so they are open
pub returns-in-Ok-clause-is_open : goal.returns-in-Ok-clause-is_open
returns-in-Ok-clause-is_open c = c.in-Ok.ensures.numbers.is_open (memory_is_clean c.next_numbers.new.self)

pub returns-in-Ok-clause-same : goal.returns-in-Ok-clause-same
returns-in-Ok-clause-same c = c.in-Ok.ensures.numbers.same (memory_is_clean c.next_numbers.new.self)

pub returns-in-Err-clause-given_back : goal.returns-in-Err-clause-given_back
returns-in-Err-clause-given_back c = c.in-Err.ensures.numbers.same (memory_is_clean c.next_numbers.new.self)
