use Rattle.std.proofs.Common.{◌≡◌, ◌++◌, take}
use Rattle.as2_evidence.specs.Files.{files_of}
use Rattle.as2_lent.specs.Sent.{made_files}
use Rattle.as2_lent.proofs.sent.SentFiles.keep.Given as goal

abbrev pub invariant-loop-file : goal.invariant-loop-file
invariant-loop-file l = (made_files l.self.made.items ≡ made_files l.fn.self.made.items ++ files_of (take l.file-index l.files))
    × (l.self.agreements_path ≡ l.fn.self.agreements_path) × (l.self.agreements ≡ l.fn.self.agreements) × (l.self.content ≡ l.fn.self.content)
