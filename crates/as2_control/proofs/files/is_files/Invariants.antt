use Rattle.std.proofs.Common.{length}
use Rattle.std.specs.Prelude.{IsUtf8}
use Rattle.as2_control.specs.Outcomes.{file_text}
use Rattle.as2_control.proofs.Sequences.{HasRead}
use Rattle.as2_control.proofs.files.is_files.Given as goal

abbrev pub invariant-loop-part : goal.invariant-loop-part
invariant-loop-part l = HasRead file_text (λ f. IsUtf8 f.name) l.text l.rest

abbrev pub decreases-loop-part : goal.decreases-loop-part
decreases-loop-part l = length l.rest
