use Rattle.as2_framing.proofs.Chunking.{no_return, takes_return}
use Rattle.as2_framing.proofs.chunked_body.ChunkedBody.take_return.Goals as goal

pub returns-then-rest-ne13-clause-taken : goal.returns-then-rest-ne13-clause-taken
returns-then-rest-ne13-clause-taken c = λ body text h. no_return body text c.args.rest.now c.requires.some c.if-rest-ne13.true h.1

pub returns-clause-taken : goal.returns-clause-taken
returns-clause-taken c = λ body text h. (h.0, takes_return body text c.args.rest.now c.requires.some c.if-rest-ne13.false h.1)
