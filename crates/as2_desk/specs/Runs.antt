-- What the program comes to where the words ask for something.
use Rattle.std.specs.Prelude.{◌⊎◌, ℕ, List, Option, IfSome, Ok, Err, ⊤}
use Rattle.as2_agreement.specs.Agreements.{AgreedValues}
use Rattle.as2_exchange.specs.State.{State}
use Rattle.as2_host.specs.FileContents.{Content}
use Rattle.as2_desk.specs.Checks.{counts_line, warnings}
use Rattle.as2_desk.specs.Endings.{Ends, EndsRefused, Fails}
use Rattle.as2_desk.specs.FileAgreements.{AgreementsResult, HasAgreements}
use Rattle.as2_desk.specs.Migrating.{DoesMigration}
use Rattle.as2_desk.specs.Observed.{Observation, StoresSeen}
use Rattle.as2_desk.specs.Statuses.{status_done}
use Rattle.as2_desk.specs.Works.{WorkOrFault, DoesWork, IsWork}
use Rattle.as2_desk.specs.Written.{Breaks, WritesWhole, WriterSeen}
use Rattle.as2_desk.specs.declared.refusal.CommandFault.TheVariants.{CannotWrite, Memory, NoStation, StationRuns}
use Rattle.as2_desk.specs.declared.status.Ran.{Ran}
use Rattle.as2_desk.specs.declared.work.Work.TheVariants.{GatherEvidence as Gathering, Verify as Looking}
use Rattle.clap.specs.Words.{Text}
use Rattle.as2_commands.specs.Options.{Gives}
use Rattle.as2_commands.specs.declared.tasks.RunOptions.{RunOptions}
use Rattle.as2_commands.specs.declared.tasks.Task.{Task}
use Rattle.as2_commands.specs.declared.tasks.Task.TheVariants.{Check, Migrate, Verify, GatherEvidence, Run, Operate, Stop}
use Rattle.as2_commands.specs.declared.tasks.Command.TheVariants.{Send, Serve}

-- The members were counted on standard output, and the warnings are said. Or a write failed behind a part of that line. Or memory
-- for it was wanting, and nothing is written.
abbrev pub PrintsCounts : AgreedValues → WriterSeen → WriterSeen → Ran → Type 0
PrintsCounts agreements output errors ran =
    (WritesWhole output (counts_line agreements) × Ends status_done (warnings agreements) errors ran)
    ⊎ ((Breaks output (counts_line agreements) × EndsRefused CannotWrite errors ran) ⊎ (output.Untouched × EndsRefused Memory errors ran))

-- nothing was read, written, made, asked of the network or done to the stores
abbrev pub LeavesAll : Observation → StoresSeen → Type 0
LeavesAll o stored = stored.Untouched × o.filing.Untouched × o.Unasked × o.input.Untouched × o.outcome.output.Untouched

-- Without a document the refusal is told, and nothing is done. Where its store can't be opened that is told, and what was kept is kept. Else the work is done,
-- from the state that the store began with, where one is known.
abbrev pub Goes : AgreedValues → RunOptions → WorkOrFault → Observation → StoresSeen → Ran → Type 0
Goes agreements options (Err refusal) o stored ran = LeavesAll o stored × EndsRefused refusal o.outcome.errors ran
Goes agreements options (Ok work) o stored ran =
    (stored.Unopened × stored.Kept × o.filing.Untouched × o.Unasked × o.input.Untouched × o.outcome.output.Untouched × Fails stored.Fails o.outcome.errors ran)
    ⊎ (stored.Opened × ((known : Option State) → IfSome known (stored.Begins options.first) → DoesWork agreements options.moment work known o ran))

-- over agreements and a store the task is done; without any of them the refusal is told, and nothing is done. Counting needs no store.
abbrev pub DoesTask : (List ℕ → Content) → AgreementsResult → Task → Observation → StoresSeen → Ran → Type 0
DoesTask contents (Err refusal) task o stored ran = LeavesAll o stored × EndsRefused refusal o.outcome.errors ran
DoesTask contents (Ok agreements) Check o stored ran = stored.Untouched × o.filing.Untouched × o.Unasked × o.input.Untouched × PrintsCounts agreements o.outcome.output o.outcome.errors ran
DoesTask contents (Ok agreements) Migrate o stored ran = o.filing.Untouched × o.Unasked × o.input.Untouched × DoesMigration stored o.outcome.output o.outcome.errors ran
DoesTask contents (Ok agreements) (Verify options format) o stored ran = Goes agreements options (Ok (Looking format)) o stored ran
DoesTask contents (Ok agreements) (GatherEvidence options wanted) o stored ran = Goes agreements options (Ok (Gathering wanted)) o stored ran
-- (a station is run, and stopped, by whoever has its sockets)
DoesTask contents (Ok agreements) (Operate options wanted) o stored ran = LeavesAll o stored × EndsRefused StationRuns o.outcome.errors ran
DoesTask contents (Ok agreements) Stop o stored ran = LeavesAll o stored × EndsRefused NoStation o.outcome.errors ran
DoesTask contents (Ok agreements) (Run options command) o stored ran = (begun : WorkOrFault) × IsWork contents command begun × Goes agreements options begun o stored ran

-- the file of that path comes to agreements or to a refusal, and the task to what follows from them
pub record Runs (contents : List ℕ → Content) (path : List ℕ) (task : Task) (o : Observation) (stored : StoresSeen) (ran : Ran) : Type 0 where
  pub opened : AgreementsResult
  pub opens : HasAgreements (contents path) opened
  pub comes : DoesTask contents opened task o stored ran

-- the task is to send
abbrev pub IsSending : Task → Type 0
IsSending (Run options (Send waits)) = ⊤
IsSending other = ⊥

-- .. or to serve
abbrev pub IsServing : Task → Type 0
IsServing (Run options (Serve serving)) = ⊤
IsServing other = ⊥

-- what the words ask for is such a task
abbrev pub WordsAskFor : List Text → Option ℕ → (Task → Type 0) → Type 0
WordsAskFor words clock P = (path store : List ℕ) × (task : Task) × Gives words clock path store task × P task
