use Rattle.as2_framing.proofs.Chunking.{no_feed, takes_feed}
use Rattle.as2_framing.specs.ChunkPieces.{HoldsLine}
use Rattle.std.proofs.Common.{ℕ, List, subst, sym, drop}
use Rattle.as2_framing.proofs.chunked_body.ChunkedBody.take_feed.Goals as goal

pub returns-then-rest-ne10-clause-taken : goal.returns-then-rest-ne10-clause-taken
returns-then-rest-ne10-clause-taken c = λ body text h. no_feed body text c.args.rest.now c.requires.some c.if-rest-ne10.true h.1

pub returns-clause-taken : goal.returns-clause-taken
returns-clause-taken c = λ body text h.
    subst (λ (kept : List ℕ). HoldsLine kept body text (drop 1 c.args.rest.now)) (sym h.0)
    (takes_feed body text c.args.rest.now c.requires.some c.if-rest-ne10.false h.1)
