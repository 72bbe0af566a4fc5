-- The files that came with a command.
use Rattle.std.specs.Prelude.{ℕ, List, map, string_bytes, if◌then◌else◌}
use Rattle.std.specs.Str.{bytes_eq}
use Rattle.as2_control.specs.declared.files.MadeFile.{MadeFile}
use Rattle.as2_evidence.specs.Files.{File}
use Rattle.as2_lent.specs.declared.sent.SentFiles.{SentFiles}

-- under the path of the agreements they stand, and under each other the document of a submission
abbrev pub sent_bytes : SentFiles → List ℕ → List ℕ
sent_bytes f path = if bytes_eq path f.agreements_path.now then f.agreements.now else f.content.now

-- the files that whoever typed a command is to make
abbrev pub made_file : MadeFile → File
made_file f = record { name = string_bytes f.name; bytes = f.content.items }

abbrev pub made_files : List MadeFile → List File
made_files = map made_file
