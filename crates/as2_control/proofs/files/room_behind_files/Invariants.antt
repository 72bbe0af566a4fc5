use Rattle.std.proofs.Common.{◌≡◌, ◌+◌, length, map, take}
use Rattle.as2_control.specs.Outcomes.{file_value, files_text}
use Rattle.as2_control.proofs.files.room_behind_files.Given as goal

abbrev pub invariant-loop-file : goal.invariant-loop-file
invariant-loop-file l = l.left + length (files_text (map file_value (take l.file-index l.files))) ≡ l.room
