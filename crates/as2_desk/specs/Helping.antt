-- What is said where the words ask for nothing: why they are faulty, or the help or the version.
use Rattle.std.specs.Prelude.{◌≢◌, ◌⊎◌, ℕ, List, [], Ok}
use Rattle.as2_desk.specs.Endings.{EndsRefused}
use Rattle.as2_desk.specs.Questions.{Prints}
use Rattle.as2_desk.specs.Written.{WritesIf, WriterSeen}
use Rattle.as2_desk.specs.declared.refusal.CommandFault.TheVariants.{Memory}
use Rattle.as2_desk.specs.declared.status.Ran.{Ran}

-- a text that isn't empty is said on standard error, or a write there failed behind a part of it
pub record SaysFaulty (errors : WriterSeen) (ran : Ran) : Type 0 where
  pub text : List ℕ
  pub some : text ≢ []
  pub said : WritesIf ran.told errors text

-- A text that isn't empty is printed. Or a write failed behind a part of it, and one line says so. Or memory for it was wanting, and
-- nothing is printed.
abbrev pub Helps : WriterSeen → WriterSeen → Ran → Type 0
Helps output errors ran = ((text : List ℕ) × (text ≢ []) × Prints (Ok text) output errors ran) ⊎ (output.Untouched × EndsRefused Memory errors ran)
