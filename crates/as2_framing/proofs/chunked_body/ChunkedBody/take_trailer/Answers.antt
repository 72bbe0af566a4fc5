use Rattle.std.proofs.Common.{ℕ, ◌-◌, length, take, drop, sym, ◌∙◌, subst, ap, arith}
use Rattle.as2_framing.specs.ChunkPieces.{HoldsTrailer}
use Rattle.as2_framing.proofs.Chunking.{bad_trailer_of, takes_end, takes_trailer}
use Rattle.as2_framing.proofs.chunked_body.ChunkedBody.take_trailer.Goals as goal

pub returns-then-front-missing-clause-taken : goal.returns-then-front-missing-clause-taken
returns-then-front-missing-clause-taken c = λ body text h.
    bad_trailer_of c.args.count c.args.line c.in-Open.line c.first-front.result.now body text c.args.rest.now
    (c.first-front.ensures ∙ ap (λ (n : ℕ). take n c.args.rest.now) c.saturating_sub-room.ensures) (sym c.scan.ensures.exact ∙ c.in-Open.is)
    (omega (arith, c.if-front-missing.true, c.missing.ensures, c.saturating_sub-room.ensures)) h.1

pub returns-in-Ended-clause-taken : goal.returns-in-Ended-clause-taken
returns-in-Ended-clause-taken c = λ body text h.
    takes_end c.args.count c.args.line c.first-front.result.now body text c.args.rest.now c.in-Ended.length
    (c.first-front.ensures ∙ ap (λ (n : ℕ). take n c.args.rest.now) c.saturating_sub-room.ensures) (sym c.scan.ensures.exact ∙ c.in-Ended.is) h.1

pub returns-else-front-missing-clause-taken : goal.returns-else-front-missing-clause-taken
returns-else-front-missing-clause-taken c = λ body text h. (
  h.0,
  subst (λ (n : ℕ). HoldsTrailer (16384 - (n - length c.first-front.result.now)) c.in-Open.line body text
      (drop (length c.first-front.result.now) c.args.rest.now)) (sym c.saturating_sub-room.ensures)
      (takes_trailer c.args.count c.args.line c.in-Open.line c.first-front.result.now body text c.args.rest.now
      (c.first-front.ensures ∙ ap (λ (n : ℕ). take n c.args.rest.now) c.saturating_sub-room.ensures) (sym c.scan.ensures.exact ∙ c.in-Open.is)
      (omega (arith, c.if-front-missing.false, c.missing.ensures, c.saturating_sub-room.ensures)) h.1),
)
