-- The files that show how a document stands are made, and their names printed.
use Rattle.std.specs.Prelude.{◌≡◌, ◌⊎◌, ℕ, List, ◌++◌, Option, Some, None, option_map, Result, Ok, Err, IfErr, IfSome, true, codes, ⊤}
use Rattle.std.specs.List.{flat_map}
use Rattle.as2_agreement.specs.Agreements.{AgreedValues}
use Rattle.as2_commands.specs.Requests.{GivenEvidence}
use Rattle.as2_evidence.specs.Evidence.{AreEvidenceFiles}
use Rattle.as2_evidence.specs.Files.{File}
use Rattle.as2_exchange.specs.State.{State}
use Rattle.as2_exchange.specs.declared.answer.Refusal.TheVariants.{NoSuchNumber}
use Rattle.as2_exchange.specs.declared.fault.StoreFault.{StoreFault}
use Rattle.as2_host.specs.declared.files.MakingFault.{MakingFault}
use Rattle.as2_host.specs.declared.files.MakingFault.TheVariants as making
use Rattle.as2_host.specs.declared.stores.OpenFault.TheVariants as open_fault
use Rattle.as2_records.specs.Standing.{may_come}
use Rattle.as2_desk.specs.Endings.{Ends, EndsRefused}
use Rattle.as2_desk.specs.Observed.{FilesSeen, Outcome}
use Rattle.as2_desk.specs.Statuses.{status_done}
use Rattle.as2_desk.specs.Written.{Breaks, WritesWhole, WriterSeen}
use Rattle.as2_desk.specs.declared.refusal.CommandFault.{CommandFault}
use Rattle.as2_desk.specs.declared.refusal.CommandFault.TheVariants.{CannotWrite, Exists, Memory, Station, Store}
use Rattle.as2_desk.specs.declared.status.Ran.{Ran}

-- the name of each file, on a line of its own
abbrev pub name_line : File → List ℕ
name_line f = f.name ++ codes "\n"

abbrev pub name_lines : List File → List ℕ
name_lines files = flat_map name_line files

-- why files aren't made, to a command
abbrev pub making_refusal : MakingFault → CommandFault
making_refusal making.Exists = Exists
making_refusal making.CannotWrite = CannotWrite
making_refusal making.Memory = Memory

-- the names are printed, or a write failed behind a part of them
abbrev pub PrintsNames : List ℕ → WriterSeen → WriterSeen → Ran → Type 0
PrintsNames names output errors ran = (WritesWhole output names × Ends status_done (codes "") errors ran) ⊎ (Breaks output names × EndsRefused CannotWrite errors ran)

-- none is made, and that is told
abbrev pub MakesNone : List ℕ → List File → FilesSeen → WriterSeen → WriterSeen → Ran → Type 0
MakesNone folder files filing output errors ran = (fault : MakingFault) × filing.MakesNone folder files fault × output.Untouched × EndsRefused (making_refusal fault) errors ran

-- they are made, and their names printed; or none is; or memory for the names was wanting, and nothing is done
abbrev pub MakesFiles : List ℕ → List File → FilesSeen → WriterSeen → WriterSeen → Ran → Type 0
MakesFiles folder files filing output errors ran =
    (filing.Makes folder files × PrintsNames (name_lines files) output errors ran)
    ⊎ (MakesNone folder files filing output errors ran ⊎ (filing.Untouched × output.Untouched × EndsRefused Memory errors ran))

-- what came of reading: files, or no such document, or a fault of the store
abbrev pub EvidenceRead : Type 0
EvidenceRead = Result (Option (List File)) StoreFault

-- the files that were read are made; without them nothing is, and it is told why
abbrev pub MakesEvidenceRead : List ℕ → EvidenceRead → FilesSeen → WriterSeen → WriterSeen → Ran → Type 0
MakesEvidenceRead folder (Ok (Some files)) filing output errors ran = MakesFiles folder files filing output errors ran
MakesEvidenceRead folder (Ok None) filing output errors ran = filing.Untouched × output.Untouched × EndsRefused (Station NoSuchNumber) errors ran
MakesEvidenceRead folder (Err fault) filing output errors ran = filing.Untouched × output.Untouched × EndsRefused (Store (open_fault.Store fault)) errors ran

-- what came is what the state has of that document
abbrev pub IsEvidenceAsked : AgreedValues → State → GivenEvidence → EvidenceRead → Type 0
IsEvidenceAsked agreements s wanted (Ok files) = AreEvidenceFiles agreements s wanted.mailbox wanted.number files
IsEvidenceAsked agreements s wanted (Err fault) = ⊤

-- where the state is known that the records stood for, they stand for it still, and the files are of it
pub record GathersEvidence (agreements : AgreedValues) (wanted : GivenEvidence) (known : Option State) (filing : FilesSeen) (o : Outcome) (ran : Ran) : Type 0 where
  pub came : EvidenceRead
  -- a fault is one that may come of any call
  pub fault : IfErr came (λ f. may_come f ≡ true)
  pub reads : IfSome known (λ s. o.Left s × IsEvidenceAsked agreements s wanted came)
  pub makes : MakesEvidenceRead wanted.folder came filing o.output o.errors ran

-- what came, seen as files
abbrev pub came_of : {V : Type 0} → (V → List File) → Result (Option V) StoreFault → EvidenceRead
came_of view (Ok files) = Ok (option_map view files)
came_of view (Err fault) = Err fault
