use Rattle.std.proofs.Common.{◌≡◌, take}
use Rattle.as2_evidence.specs.Words.{printing_text}
use Rattle.as2_evidence.proofs.words.printing_text.Given as goal

abbrev pub invariant-loop-byte : goal.invariant-loop-byte
invariant-loop-byte l = l.shown.items ≡ printing_text (take l.byte-index l.text)
