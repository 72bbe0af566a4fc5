-- The records of a station that are lent to a command.
use Rattle.std.specs.Prelude.{◌≡◌, ℕ, List, Option, Some, None, Ok, ⊤}
use Rattle.clap.specs.Words.{Text}
use Rattle.as2_agreement.specs.Agreements.{AgreedValues}
use Rattle.as2_agreement.specs.Reading.{agreements_reading}
use Rattle.as2_commands.specs.Options.{Gives, GivesNone}
use Rattle.as2_commands.specs.declared.tasks.Task.{Task}
use Rattle.as2_exchange.specs.State.{State}
use Rattle.as2_live.specs.Living.{LeadsByOne}
use Rattle.as2_records.specs.Standing.{Medium, Standing}
use Rattle.as2_lent.specs.Lending.{IsLendable}

module _ {M : Medium} {K : Type 0} (shows : K → Standing M) where
  -- they are there, and stand for that state, where their medium has returned what was written
  abbrev pub LentKeeps : Option K → State → Type 0
  LentKeeps None s = ⊥
  LentKeeps (Some records) s = (shows records).IsClean → (shows records).Rests s

  -- where they are there, their medium has returned what was written
  abbrev pub IsCleanLent : Option K → Type 0
  IsCleanLent None = ⊤
  IsCleanLent (Some records) = (shows records).IsClean

  -- some records stand for what others stood for
  pub record StandsOn (old new : K) : Type 0 where
    pub clean : (shows new).IsClean → (shows old).IsClean
    pub same : (shows new).IsClean → (s : State) → (shows old).Rests s → (shows new).Rests s

  -- Words were run over the records, and over agreements that stand in this text under that path. Where they ask for what a station does
  -- for whoever asks, one event or none led the machine from each state that the records stood for to one that they stand for. Words that
  -- ask for nothing leave the records alone.
  pub record LendsTo (words : List Text) (clock : Option ℕ) (path text : List ℕ) (old new : Option K) : Type 0 where
    pub clean : IsCleanLent new → IsCleanLent old
    pub leads : (store : List ℕ) (task : Task) → Gives words clock path store task → IsLendable task
        → (A : AgreedValues) → agreements_reading text ≡ Ok A → IsCleanLent new → (s : State) → LentKeeps old s → LeadsByOne A s (LentKeeps new)
    pub none : GivesNone words clock → new ≡ old
