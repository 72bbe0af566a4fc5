use Rattle.std.proofs.Common.{refl}
use Rattle.as2_host.proofs.Untouched.{serves_none}
use Rattle.as2_script.proofs.desk.network.PeersListens.serve.Goals as goal

-- it brings nothing
pub returns-in_default-clause-serves : goal.returns-in_default-clause-serves
returns-in_default-clause-serves g c = λ clean s rests. (s, rests, serves_none c.args.agreements.now c.args.moment _ s (refl, refl))

pub returns-in-None-clause-serves : goal.returns-in-None-clause-serves
returns-in-None-clause-serves g c = λ clean s rests. (s, rests, serves_none c.args.agreements.now c.args.moment _ s (refl, refl))

-- it brings the requests of a text
pub returns-in-Some-moment-clause-serves : goal.returns-in-Some-moment-clause-serves
returns-in-Some-moment-clause-serves g c = λ clean s rests.
    let it = c.serve_text.ensures.posts clean s rests in
    (it.0, it.1, record { moment = c.in-Some-moment.moment; is_given = rw c.in-Some-moment.is refl; posts = it.2; brought = (refl, refl) })
