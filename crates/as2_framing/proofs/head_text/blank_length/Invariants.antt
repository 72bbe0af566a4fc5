use Rattle.std.proofs.Common.{◌≡◌, drop}
use Rattle.as2_framing.specs.HeadText.{unblank}
use Rattle.as2_framing.proofs.head_text.blank_length.Given as goal

abbrev pub invariant-loop-i : goal.invariant-loop-i
invariant-loop-i l = unblank l.text ≡ unblank (drop l.i l.text)
