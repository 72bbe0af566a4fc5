use Rattle.std.proofs.Common.{◌≡◌, ◌∷◌, ◌+◌, ◌*◌, ◌≤◌, take, length}
use Rattle.std.specs.List.{flat_map}
use Rattle.as2_names.specs.Ascii.{quote}
use Rattle.as2_names.specs.Names.{quoted_byte}
use Rattle.as2_names.proofs.name.quote.Given as goal

abbrev pub invariant-loop-b : goal.invariant-loop-b
invariant-loop-b l = record {
  bytes : l.text.bytes ≡ quote ∷ flat_map quoted_byte (take l.b-index l.name);
  room : length l.text.bytes ≤ 1 + 2 * l.b-index;
}
