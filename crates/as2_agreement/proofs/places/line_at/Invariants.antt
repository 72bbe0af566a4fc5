use Rattle.std.proofs.Common.{◌≡◌, ◌+◌, ◌≤◌, ◌==◌, take}
use Rattle.std.specs.Prelude.{count_by}
use Rattle.as2_names.specs.Ascii.{line_feed}
use Rattle.as2_agreement.proofs.places.line_at.Given as goal

abbrev pub invariant-loop-byte : goal.invariant-loop-byte
invariant-loop-byte l = record {
  counted : l.line ≡ 1 + count_by (λ b. b == line_feed) (take l.byte-index (take l.at l.text));
  bounded : l.line ≤ 1 + l.byte-index;
}
