use Rattle.std.proofs.Common.{List, ℕ, ◌++◌, rules, ap, subst, sym}
use Rattle.as2_framing.specs.Chunks.{HasNoLine, MayHaveLine}
use Rattle.as2_framing.proofs.Chunking.{behind_nothing}
use Rattle.as2_framing.proofs.ChunkLines.{nothing_open}
use Rattle.as2_framing.proofs.chunked_body.ChunkedBody.new.Goals as goal

pub invariant_of-result : goal.invariant_of-result
invariant_of-result c = record { within = search rules; none = subst HasNoLine (sym c.new.ensures.items) nothing_open.0; some = λ n is. absurd cc }

pub returns : goal.returns
returns c = λ text. record {
  at = text;
  behind = behind_nothing text;
  follows = ap (λ (t : List ℕ). t ++ text) (sym c.new.ensures.items);
  none = subst HasNoLine (sym c.new.ensures.items) nothing_open.0;
  may = subst MayHaveLine (sym c.new.ensures.items) nothing_open.1;
}
