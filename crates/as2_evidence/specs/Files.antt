-- Files that are to be made.
use Rattle.std.specs.Prelude.{ℕ, List, map, string_bytes}
use Rattle.as2_evidence.specs.declared.files.NewFile.{NewFile}

-- a file: its name in a folder, and its bytes
pub record File : Type 0 where
  pub name : List ℕ
  pub bytes : List ℕ

abbrev pub file_of : NewFile → File
file_of f = record { name = string_bytes f.name; bytes = f.bytes }

abbrev pub files_of : List NewFile → List File
files_of = map file_of
