use Rattle.std.proofs.Common.{◌≡◌, take}
use Rattle.as2_desk.specs.Evidence.{name_lines}
use Rattle.as2_evidence.specs.Files.{files_of}
use Rattle.as2_desk.proofs.evidence.name_lines.Given as goal

abbrev pub invariant-loop-file : goal.invariant-loop-file
invariant-loop-file l = l.text.items ≡ name_lines (files_of (take l.file-index l.files))
