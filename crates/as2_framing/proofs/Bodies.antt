-- Bodies of a length and chunked ones: what comes of a piece, what stays so when more comes, and that it is one thing.
use Rattle.std.proofs.Common.{◌≡◌, ◌∙◌, ℕ, List, [], ◌++◌, length, Result, Ok, Err, ap, sym, append_assoc, append-nil, length-append, arith}
use Rattle.std.specs.Prelude.{IfOk}
use Rattle.as2_framing.specs.Bodies.{BeginsBody, IsOpenBody, IsBadBody, IsTooLargeBody}
use Rattle.as2_framing.specs.BodyPieces.{HoldsBody, IsMissing, FeedsBody}
use Rattle.as2_framing.specs.ChunkPieces.{HoldsChunked, Feeds}
use Rattle.as2_framing.specs.declared.body.BodyFraming.{BodyFraming}
use Rattle.as2_framing.specs.declared.body.BodyFraming.TheVariants as framing
use Rattle.as2_framing.specs.declared.body.MissingBody.{MissingBody}
use Rattle.as2_framing.specs.declared.body.MissingBody.TheVariants as missing
use Rattle.as2_framing.specs.declared.chunked.BodyPiece.{BodyPiece}
use Rattle.as2_framing.specs.declared.chunked.BodyPiece.TheVariants as fed
use Rattle.as2_framing.specs.declared.chunked_body.ChunkedBody.{ChunkedBody}
use Rattle.as2_framing.proofs.Chunking.{holds_more, holds_open}
use Rattle.as2_framing.proofs.Lasting.{bad_append, begins_append as begins_more, large_append}
use Rattle.as2_framing.proofs.OneBody.{begins_one, front_once, never_faulty, never_open, never_open_fault, one_fault}

-- ---- a piece

chunked_feeds : (old new : ChunkedBody) (how : BodyFraming) (body next text rest : List ℕ) (f : BodyPiece)
    → (HoldsChunked old body text rest → Feeds new next text rest f)
    → HoldsBody (missing.Chunked old) how body text rest → FeedsBody (missing.Chunked old) (missing.Chunked new) how next text rest f
chunked_feeds old new (framing.Length n) body next text rest f feeds h = absurd h
chunked_feeds old new framing.Chunked body next text rest fed.Open feeds h = let k = feeds h in (tt, k.0, k.1)
chunked_feeds old new framing.Chunked body next text rest (fed.Whole n) feeds h = let k = feeds h in (λ some. k.0, k.1, k.2)
chunked_feeds old new framing.Chunked body next text rest fed.Bad feeds h = feeds h
chunked_feeds old new framing.Chunked body next text rest fed.TooLarge feeds h = feeds h

pub chunked_fed : {E : Type 0} (old new : ChunkedBody) (body next bytes : List ℕ) (r : Result BodyPiece E)
    → IfOk r (λ f. (text : List ℕ) → HoldsChunked old body text bytes → Feeds new next text bytes f)
    → IfOk r (λ f. (how : BodyFraming) (text : List ℕ) → HoldsBody (missing.Chunked old) how body text bytes
    → FeedsBody (missing.Chunked old) (missing.Chunked new) how next text bytes f)
chunked_fed old new body next bytes (Ok f) feeds = λ how text h. chunked_feeds old new how body next text bytes f (feeds text) h
chunked_fed old new body next bytes (Err e) feeds = tt

-- while some is missing
pub body_open : (m : MissingBody) (how : BodyFraming) (body text : List ℕ) → IsMissing m → HoldsBody m how body text [] → IsOpenBody how text
body_open (missing.Length m) (framing.Length n) body text some h = omega (arith, ap length (h.1 ∙ append-nil body), h.0, some)
body_open (missing.Length m) framing.Chunked body text some h = absurd h
body_open (missing.Chunked c) (framing.Length n) body text some h = absurd h
body_open (missing.Chunked c) framing.Chunked body text some h = holds_open c body text h

-- ---- when more comes

pub body_more : (m : MissingBody) (how : BodyFraming) (body text more : List ℕ) → HoldsBody m how body text [] → HoldsBody m how body (text ++ more) more
body_more (missing.Length m) (framing.Length n) body text more h = (h.0, ap (λ (t : List ℕ). t ++ more) (h.1 ∙ append-nil body))
body_more (missing.Length m) framing.Chunked body text more h = absurd h
body_more (missing.Chunked c) (framing.Length n) body text more h = absurd h
body_more (missing.Chunked c) framing.Chunked body text more h = holds_more c body text more h

pub body_append : (how : BodyFraming) (text body rest more : List ℕ) → BeginsBody how text body rest → BeginsBody how (text ++ more) body (rest ++ more)
body_append (framing.Length n) text body rest more b = (b.0, ap (λ (t : List ℕ). t ++ more) b.1 ∙ append_assoc body rest more)
body_append framing.Chunked text body rest more b = begins_more text body rest more b

pub bad_body_append : (how : BodyFraming) (text more : List ℕ) → IsBadBody how text → IsBadBody how (text ++ more)
bad_body_append (framing.Length n) text more b = absurd b
bad_body_append framing.Chunked text more b = bad_append text more b

pub large_body_append : (how : BodyFraming) (text more : List ℕ) → IsTooLargeBody how text → IsTooLargeBody how (text ++ more)
large_body_append (framing.Length n) text more b = absurd b
large_body_append framing.Chunked text more b = large_append text more b

-- ---- one thing

pub one_body : (how : BodyFraming) (text body rest other tail : List ℕ) → BeginsBody how text body rest → BeginsBody how text other tail → (body ≡ other)
    × (rest ≡ tail)
one_body (framing.Length n) text body rest other tail b c = front_once body other rest tail (b.0 ∙ sym c.0) (sym b.1 ∙ c.1)
one_body framing.Chunked text body rest other tail b c = begins_one text body rest other tail b c

pub body_not_open : (how : BodyFraming) (text body rest : List ℕ) → BeginsBody how text body rest → IsOpenBody how text → ⊥
body_not_open (framing.Length n) text body rest b short = absurd (omega (arith, ap length b.1, length-append body rest, b.0, short))
body_not_open framing.Chunked text body rest b short = never_open text body rest b short

pub body_not_bad : (how : BodyFraming) (text body rest : List ℕ) → BeginsBody how text body rest → IsBadBody how text → ⊥
body_not_bad (framing.Length n) text body rest b bad = bad
body_not_bad framing.Chunked text body rest b bad = (never_faulty text body rest b).0 bad

pub body_not_large : (how : BodyFraming) (text body rest : List ℕ) → BeginsBody how text body rest → IsTooLargeBody how text → ⊥
body_not_large (framing.Length n) text body rest b large = large
body_not_large framing.Chunked text body rest b large = (never_faulty text body rest b).1 large

pub bad_not_large : (how : BodyFraming) (text : List ℕ) → IsBadBody how text → IsTooLargeBody how text → ⊥
bad_not_large (framing.Length n) text bad large = bad
bad_not_large framing.Chunked text bad large = one_fault text bad large

pub open_not_bad : (how : BodyFraming) (text : List ℕ) → IsOpenBody how text → IsBadBody how text → ⊥
open_not_bad (framing.Length n) text short bad = bad
open_not_bad framing.Chunked text short bad = (never_open_fault text short).0 bad

pub open_not_large : (how : BodyFraming) (text : List ℕ) → IsOpenBody how text → IsTooLargeBody how text → ⊥
open_not_large (framing.Length n) text short large = large
open_not_large framing.Chunked text short large = (never_open_fault text short).1 large
