-- How files are named: the one of a path, and those in a folder.
use Rattle.std.specs.Prelude.{ℕ, List, [], ◌∷◌, ◌++◌, ◌==◌, codes, if◌then◌else◌, map, string_bytes}
use Rattle.std.specs.List.{starts_with, ends_with}
use Rattle.as2_evidence.specs.declared.files.NewFile.{NewFile}

-- one that begins with `file:` is a path too, and no address
abbrev pub file_name : List ℕ → List ℕ
file_name path = if starts_with (λ x y. x == y) path (codes "file:") then codes "./" ++ path else path

-- what stands before the name of a file in that folder; the one without a name is where the program runs
abbrev pub front_of : List ℕ → List ℕ
front_of [] = codes "./"
front_of (byte ∷ rest) = if ends_with (λ x y. x == y) (byte ∷ rest) (codes "/") then byte ∷ rest else (byte ∷ rest) ++ codes "/"

-- the names of these files in that folder
abbrev pub paths_of : List ℕ → List NewFile → List (List ℕ)
paths_of folder files = map (λ f. front_of folder ++ string_bytes f.name) files
