use Rattle.as2_exchange.proofs.Equal.{repeats_exactly, repeats_before}
use Rattle.as2_exchange.proofs.repeats_are_equal.Goals as goal

pub returns-clause-since : goal.returns-clause-since
returns-clause-since c = repeats_exactly

pub returns-clause-before : goal.returns-clause-before
returns-clause-before c = repeats_before
