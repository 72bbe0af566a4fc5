use Rattle.std.proofs.Common.{ℕ, List, subst, sym}
use Rattle.std.specs.Prelude.{IfOk}
use Rattle.as2_framing.specs.BodyPieces.{FeedsBody, HoldsBody}
use Rattle.as2_framing.specs.declared.body.BodyFraming.{BodyFraming}
use Rattle.as2_framing.specs.declared.body.MissingBody.{MissingBody}
use Rattle.as2_framing.specs.declared.body.MissingBody.TheVariants.{Chunked}
use Rattle.as2_framing.proofs.Bodies.{chunked_fed}
use Rattle.as2_framing.proofs.body.MissingBody.feed.Goals as goal

pub returns-in-Chunked-clause-fed : goal.returns-in-Chunked-clause-fed
returns-in-Chunked-clause-fed c =
    subst (λ (m : MissingBody). IfOk c.feed.result
    (λ f. (how : BodyFraming) (text : List ℕ) → HoldsBody m how c.args.body.now text c.args.bytes.now
    → FeedsBody m (Chunked c.feed.new.self) how c.feed.new.body text c.args.bytes.now f))
    (sym c.in-Chunked.is) (chunked_fed c.in-Chunked.chunked c.feed.new.self c.args.body.now c.feed.new.body c.args.bytes.now c.feed.result c.feed.ensures.fed)
