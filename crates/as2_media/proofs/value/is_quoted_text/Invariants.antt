use Rattle.std.proofs.Common.{◌≡◌, false, drop}
use Rattle.as2_media.specs.Values.{is_quoted_text}
use Rattle.as2_media.proofs.value.is_quoted_text.Given as goal

abbrev pub invariant-loop-b : goal.invariant-loop-b
invariant-loop-b l = is_quoted_text l.escaped (drop l.b-index l.text) ≡ is_quoted_text false l.text
