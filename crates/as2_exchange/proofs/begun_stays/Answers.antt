use Rattle.as2_exchange.proofs.Begun.{begun_stays_law}
use Rattle.as2_exchange.proofs.begun_stays.Goals as goal

pub returns : goal.returns
returns c = begun_stays_law
