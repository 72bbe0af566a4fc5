-- What came of a demand, and the frame of it.
use Rattle.std.specs.Prelude.{◌≡◌, ℕ, ◌-◌, ◌<◌, ◌^◌, List, [], ◌∷◌, ◌++◌, All, IsUtf8, length, map, string_bytes}
use Rattle.std.specs.List.{flat_map}
use Rattle.as2_control.specs.Frames.{IsFrameOf, framed_field}
use Rattle.as2_control.specs.declared.files.FilePart.{FilePart}
use Rattle.as2_control.specs.declared.files.MadeFile.{MadeFile}
use Rattle.as2_control.specs.declared.outcome.Outcome.{Outcome}

-- a file that is made
pub record FileValue : Type 0 where
  pub name : List ℕ
  pub content : List ℕ

-- .. as the code keeps it
abbrev pub file_value : MadeFile → FileValue
file_value f = record { name = string_bytes f.name; content = f.content.items }

-- .. and as it is cut off a text
abbrev pub part_value : FilePart → FileValue
part_value p = record { name = p.name.now; content = p.content.now }

-- what an outcome says
pub record OutcomeValue : Type 0 where
  pub status : ℕ
  pub output : List ℕ
  pub errors : List ℕ
  pub files : List FileValue

-- .. as the code keeps it
abbrev pub outcome_value : Outcome → OutcomeValue
outcome_value o = record { status = o.status; output = o.output.items; errors = o.errors.items; files = map file_value o.files.items }

-- a file: its name and its content, each a field
abbrev pub file_text : FileValue → List ℕ
file_text f = framed_field f.name ++ framed_field f.content

-- files, one behind the other
abbrev pub files_text : List FileValue → List ℕ
files_text files = flat_map file_text files

-- each of them has a name in UTF-8
abbrev pub AreNamed : List FileValue → Type 0
AreNamed files = All (λ f. IsUtf8 f.name) files

-- these are an outcome's files, and that is their text
pub record AreFiles (text : List ℕ) (files : List FileValue) : Type 0 where
  pub whole : text ≡ files_text files
  pub named : AreNamed files

-- the body of an outcome's frame: the status, one byte; what is for standard output and for standard error; each file
abbrev pub outcome_body : OutcomeValue → List ℕ
outcome_body o = framed_field (o.status ∷ []) ++ (framed_field o.output ++ (framed_field o.errors ++ files_text o.files))

-- an outcome has no more bytes than four bytes count
abbrev pub FitsOutcome : OutcomeValue → Type 0
FitsOutcome o = length (outcome_body o) < 2 ^ 32

-- the text is the frame of that outcome
pub record IsOutcomeFrame (text : List ℕ) (o : OutcomeValue) : Type 0 where
  pub frame : IsFrameOf (2 ^ 32 - 1) text (outcome_body o)
  pub named : AreNamed o.files
