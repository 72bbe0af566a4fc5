-- Which document a file has, or why it has none.
use Rattle.std.specs.Prelude.{◌≡◌, ℕ, List, Result, Ok, Err, ⊤}
use Rattle.as2_host.specs.FileContents.{Content, untold, unreadable, file}
use Rattle.as2_desk.specs.declared.refusal.CommandFault.{CommandFault}
use Rattle.as2_desk.specs.declared.refusal.CommandFault.TheVariants.{CannotRead, Memory}

-- a document, or the refusal that stands in its place
abbrev pub DocumentResult : Type 0
DocumentResult = Result (List ℕ) CommandFault

-- what is read of a file is its document; it can't be read; or memory was wanting
abbrev pub HasDocument : Content → DocumentResult → Type 0
HasDocument untold document = ⊤
HasDocument unreadable document = document ≡ Err CannotRead
HasDocument (file bytes) (Ok content) = content ≡ bytes
HasDocument (file bytes) (Err refusal) = refusal ≡ Memory
