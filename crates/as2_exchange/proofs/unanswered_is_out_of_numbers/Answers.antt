use Rattle.as2_exchange.proofs.Numbers.{numbers_law}
use Rattle.as2_exchange.proofs.unanswered_is_out_of_numbers.Goals as goal

pub returns : goal.returns
returns c = numbers_law
