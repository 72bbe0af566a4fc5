use Rattle.as2_host.proofs.Untouched.{serves_none}
use Rattle.as2_lent.proofs.network.NoNetworkListens.serve.Goals as goal

-- it brings nothing
pub returns-clause-serves : goal.returns-clause-serves
returns-clause-serves g c = λ clean s rests. (s, rests, serves_none c.args._agreements.now c.args._moment _ s tt)
