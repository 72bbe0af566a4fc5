use Rattle.std.proofs.Common.{length, map}
use Rattle.as2_control.specs.Outcomes.{file_value}
use Rattle.as2_control.proofs.Texts.{FilesLeft}
use Rattle.as2_control.proofs.files.read_files.Given as goal

abbrev pub invariant-loop-part : goal.invariant-loop-part
invariant-loop-part l = FilesLeft l.text (map file_value l.files.items) l.rest

abbrev pub decreases-loop-part : goal.decreases-loop-part
decreases-loop-part l = length l.rest
