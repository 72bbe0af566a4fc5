-- What a station does for whoever asks.
use Rattle.std.specs.Prelude.{⊤}
use Rattle.as2_commands.specs.declared.tasks.Command.TheVariants.{Ask}
use Rattle.as2_commands.specs.declared.tasks.Task.{Task}
use Rattle.as2_commands.specs.declared.tasks.Task.TheVariants.{Check, Verify, GatherEvidence, Run, Stop}

-- a station does it for whoever asks: a question, a look through the records, the evidence of a document; or it needs no records
abbrev pub IsLendable : Task → Type 0
IsLendable Check = ⊤
IsLendable Stop = ⊤
IsLendable (Verify options form) = ⊤
IsLendable (GatherEvidence options wanted) = ⊤
IsLendable (Run options (Ask question)) = ⊤
IsLendable other = ⊥
