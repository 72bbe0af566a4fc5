-- What a command does over the store.
use Rattle.std.specs.Prelude.{◌≡◌, ◌+◌, ℕ, List, Option, Result, Ok, Err, ⊤}
use Rattle.as2_agreement.specs.Agreements.{AgreedValues}
use Rattle.as2_exchange.specs.State.{State, content_limit}
use Rattle.as2_station.specs.declared.said.NewDocument.{NewDocument}
use Rattle.as2_desk.specs.Connections.{ServesCount}
use Rattle.as2_host.specs.FileContents.{Content, front}
use Rattle.as2_desk.specs.FileDocuments.{DocumentResult, HasDocument}
use Rattle.as2_desk.specs.Observed.{Observation}
use Rattle.as2_desk.specs.Posting.{Posts}
use Rattle.as2_desk.specs.Evidence.{GathersEvidence}
use Rattle.as2_desk.specs.Questions.{QuestionInHand, AnswersQuestion}
use Rattle.as2_desk.specs.SendingDue.{SendsDue}
use Rattle.as2_desk.specs.Verifying.{Verifies}
use Rattle.as2_commands.specs.Requests.{GivenSubmission}
use Rattle.as2_commands.specs.declared.tasks.Command.{Command}
use Rattle.as2_commands.specs.declared.tasks.Command.TheVariants.{Post, Ask, Send, Serve}
use Rattle.as2_commands.specs.declared.tasks.Question.{Question}
use Rattle.as2_commands.specs.declared.tasks.Question.TheVariants as question
use Rattle.as2_desk.specs.declared.refusal.CommandFault.{CommandFault}
use Rattle.as2_desk.specs.declared.status.Ran.{Ran}
use Rattle.as2_desk.specs.declared.work.Work.{Work}
use Rattle.as2_desk.specs.declared.work.Work.TheVariants.{At, Verify, GatherEvidence}

-- a command, whose document was read
abbrev pub CommandInHand : Type 0
CommandInHand = Command NewDocument

-- what is done over the store, or the refusal that stands in its place
abbrev pub WorkOrFault : Type 0
WorkOrFault = Result Work CommandFault

-- the same of a document alone
abbrev pub asked_of : Result NewDocument CommandFault → Result QuestionInHand CommandFault
asked_of (Ok document) = Ok (question.Submit document)
asked_of (Err refusal) = Err refusal

-- a document in hand is handed in
abbrev pub hand_in : GivenSubmission → DocumentResult → Result QuestionInHand CommandFault
hand_in s (Ok content) = Ok (question.Submit (record { organization = s.from; partner = s.to; content = content }))
hand_in s (Err refusal) = Err refusal

-- what is asked once the file of a submission is read; of it one byte more is read than a content may have
abbrev pub IsAsked : (List ℕ → Content) → Question GivenSubmission → Result QuestionInHand CommandFault → Type 0
IsAsked contents (question.Submit s) asked = (document : DocumentResult) × HasDocument (front (content_limit + 1) (contents s.path)) document × (asked ≡ hand_in s document)
IsAsked contents question.Tick asked = asked ≡ Ok question.Tick
IsAsked contents (question.Resend n) asked = asked ≡ Ok (question.Resend n)
IsAsked contents (question.List filter idle format) asked = asked ≡ Ok (question.List filter idle format)
IsAsked contents (question.Outstanding format) asked = asked ≡ Ok (question.Outstanding format)
IsAsked contents (question.Show n format) asked = asked ≡ Ok (question.Show n format)
IsAsked contents (question.Fetch n) asked = asked ≡ Ok (question.Fetch n)

abbrev pub begin_question : Result QuestionInHand CommandFault → WorkOrFault
begin_question (Ok asked) = Ok (At (Ask asked))
begin_question (Err refusal) = Err refusal

-- the same of a command
abbrev pub IsWork : (List ℕ → Content) → Command GivenSubmission → WorkOrFault → Type 0
IsWork contents (Post logs) begun = begun ≡ Ok (At (Post logs))
IsWork contents (Ask question) begun = (asked : Result QuestionInHand CommandFault) × IsAsked contents question asked × (begun ≡ begin_question asked)
IsWork contents (Send waits) begun = begun ≡ Ok (At (Send waits))
IsWork contents (Serve serving) begun = begun ≡ Ok (At (Serve serving))

-- the command is carried out, at this moment; no other than `post` reads the input, and only `send` and `serve` ask something of the network
abbrev pub CarriesOut : AgreedValues → ℕ → CommandInHand → Option State → Observation → Ran → Type 0
CarriesOut agreements moment (Post logs) known o ran = o.Unasked × Posts agreements moment known o.input o.outcome ran
CarriesOut agreements moment (Ask asked) known o ran = o.Unasked × o.input.Untouched × AnswersQuestion agreements moment asked known o.outcome ran
CarriesOut agreements moment (Send waits) known o ran = o.input.Untouched × SendsDue agreements moment known o.outcome (o.Exchanged waits) ran
CarriesOut agreements moment (Serve serving) known o ran = o.input.Untouched × ServesCount serving.count known o.outcome (o.listening agreements serving) ran

-- that is done
abbrev pub DoesWork : AgreedValues → ℕ → Work → Option State → Observation → Ran → Type 0
DoesWork agreements moment (At command) known o ran = o.filing.Untouched × CarriesOut agreements moment command known o ran
DoesWork agreements moment (Verify format) known o ran = o.filing.Untouched × o.Unasked × o.input.Untouched × Verifies format known o.outcome ran
DoesWork agreements moment (GatherEvidence wanted) known o ran = o.Unasked × o.input.Untouched × GathersEvidence agreements wanted known o.filing o.outcome ran

-- it sends
abbrev pub IsSendCommand : CommandInHand → Type 0
IsSendCommand (Send waits) = ⊤
IsSendCommand other = ⊥

abbrev pub SendsWork : Work → Type 0
SendsWork (At command) = IsSendCommand command
SendsWork other = ⊥

-- it serves
abbrev pub ServesIt : CommandInHand → Type 0
ServesIt (Serve serving) = ⊤
ServesIt other = ⊥

abbrev pub ServesWork : Work → Type 0
ServesWork (At command) = ServesIt command
ServesWork other = ⊥
