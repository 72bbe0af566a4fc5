use Rattle.std.proofs.Common.{refl}
use Rattle.as2_host.proofs.Untouched.{serves_none}
use Rattle.as2_connections.proofs.network.ListeningSocketListens.serve.Goals as goal

pub returns-in_default-clause-serves : goal.returns-in_default-clause-serves
returns-in_default-clause-serves g c = λ clean s rests. (s, rests, serves_none c.args.agreements.now c.args.moment _ s (refl, refl, refl))

pub returns-in-None-and_then-clause-serves : goal.returns-in-None-and_then-clause-serves
returns-in-None-and_then-clause-serves g c = λ clean s rests. (s, rests, serves_none c.args.agreements.now c.args.moment _ s (refl, refl, refl))
