use Rattle.std.proofs.Common.{rules}
use Rattle.as2_framing.specs.declared.chunked.ChunkStep.TheVariants.{Bad}
use Rattle.as2_framing.proofs.ChunkLines.{nil_of}
use Rattle.as2_framing.proofs.Chunking.{all_taken, stepped_as}
use Rattle.as2_framing.proofs.chunked_body.ChunkedBody.feed.Goals as goal

pub returns-in-Bad-clause-fed : goal.returns-in-Bad-clause-fed
returns-in-Bad-clause-fed c = λ text h.
    stepped_as c.step.new.self c.step.new.body text c.loop-rest.rest.now c.in_ok-used.field-0 Bad c.in-Bad.is
    (c.in_ok-used.ensures.taken text (c.loop-rest.invariant.held text h))

pub returns-clause-fed : goal.returns-clause-fed
returns-clause-fed c = λ text h. all_taken c.loop-rest.self c.loop-rest.body text c.loop-rest.rest.now (nil_of c.loop-rest.rest.now (search rules))
    (c.loop-rest.invariant.held text h)
