-- Commands that are asked for while a station runs.
use Rattle.std.specs.Prelude.{◌≡◌, ◌⊎◌, ℕ, List, Option, ⊤}
use Rattle.clap.specs.Walk.{texts}
use Rattle.clap.specs.Words.{Text}
use Rattle.as2_commands.specs.Options.{Gives, GivesNone}
use Rattle.as2_commands.specs.declared.tasks.Task.{Task}
use Rattle.as2_lent.specs.Lending.{IsLendable}
use Rattle.as2_lent.specs.declared.forwarded.Forwarded.{Forwarded}
use Rattle.as2_loop.specs.declared.commands.Basis.{Basis}
use Rattle.as2_loop.specs.declared.commands.Verdict.{Verdict}
use Rattle.as2_loop.specs.declared.commands.Verdict.TheVariants.{Runs}

-- a task is run only where a station does it for whoever asks, and then over the agreements of that path
abbrev pub RunsLendable : Task → List ℕ → Verdict → Type 0
RunsLendable task path (Runs p) = IsLendable task × (p.now ≡ path)
RunsLendable task path other = ⊤

-- words ask for what a station does for whoever asks, over the agreements of that path, or for nothing
abbrev pub AskLendable : List Text → Option ℕ → List ℕ → Type 0
AskLendable words clock path = GivesNone words clock ⊎ ((store : List ℕ) × (task : Task) × Gives words clock path store task × IsLendable task)

-- only such words are run
abbrev pub RunsWords : List Text → Option ℕ → Verdict → Type 0
RunsWords words clock (Runs p) = AskLendable words clock p.now
RunsWords words clock other = ⊤

-- the command line is such a one, over the agreements that the station runs by
pub record IsFor (basis : Basis) (given : Forwarded) : Type 0 where
  pub asks : AskLendable (texts given.words.now) given.clock given.agreements_path.now
  pub text : given.agreements.now ≡ basis.agreed.text.items
