use Rattle.std.proofs.Common.{◌≡◌, map, take}
use Rattle.std.specs.Prelude.{string_bytes}
use Rattle.as2_files.specs.Names.{paths_of}
use Rattle.as2_files.proofs.making.names_in.Given as goal

abbrev pub invariant-loop-file : goal.invariant-loop-file
invariant-loop-file l = map string_bytes l.names.items ≡ paths_of l.folder (take l.file-index l.files)
