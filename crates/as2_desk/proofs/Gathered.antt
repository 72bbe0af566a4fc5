-- What came of reading the evidence, seen as files.
use Rattle.std.proofs.Common.{◌≡◌, List, Option, Some, None, IfSome, Result, Ok, Err, IfErr, IfOk, option_map, true}
use Rattle.as2_agreement.specs.Agreements.{AgreedValues}
use Rattle.as2_commands.specs.Requests.{GivenEvidence}
use Rattle.as2_evidence.specs.Evidence.{AreEvidenceFiles}
use Rattle.as2_evidence.specs.Files.{File}
use Rattle.as2_exchange.specs.State.{State}
use Rattle.as2_exchange.specs.declared.fault.StoreFault.{StoreFault}
use Rattle.as2_records.specs.Calls.{Reads}
use Rattle.as2_records.specs.Standing.{Medium, Standing, may_come}
use Rattle.as2_desk.specs.Evidence.{IsEvidenceAsked, came_of}

module _ {V : Type 0} (view : V → List File) where
  pub fault_came : (r : Result (Option V) StoreFault) → IfErr r (λ f. may_come f ≡ true) → IfErr (came_of view r) (λ f. may_come f ≡ true)
  fault_came (Ok files) may = tt
  fault_came (Err fault) may = may

  of_state : (A : AgreedValues) (s : State) (w : GivenEvidence) (r : Result (Option V) StoreFault)
      → IfOk r (λ files. AreEvidenceFiles A s w.mailbox w.number (option_map view files)) → IsEvidenceAsked A s w (came_of view r)
  of_state A s w (Ok files) is = is
  of_state A s w (Err fault) is = tt

  each : {M : Medium} (old : Standing M) (fits : State → Option V → Type 0) (s : State) (r : Result (Option V) StoreFault) → old.Rests s
      → IfOk r (λ files. (t : State) → old.Rests t → fits t files) → IfOk r (λ files. fits s files)
  each old fits s (Ok files) rests all = all s rests
  each old fits s (Err fault) rests all = tt

  -- where the state is known, it is as it was, and what came is what it has
  pub reads_known : {M : Medium} (old new : Standing M) (A : AgreedValues) (w : GivenEvidence) (r : Result (Option V) StoreFault) (known : Option State)
      → Reads (λ s files. AreEvidenceFiles A s w.mailbox w.number (option_map view files)) old new r → IfSome known (λ s. new.IsClean × old.Rests s)
      → IfSome known (λ s. new.Rests s × IsEvidenceAsked A s w (came_of view r))
  reads_known old new A w r None read stood = tt
  reads_known old new A w r (Some s) read stood = (
    read.same stood.0 s stood.1,
    of_state A s w r (each old (λ s files. AreEvidenceFiles A s w.mailbox w.number (option_map view files)) s r stood.1 (read.answer stood.0)),
  )
