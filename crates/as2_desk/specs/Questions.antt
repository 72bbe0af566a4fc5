-- What is asked of the station once, and what is told of its answer.
use Rattle.std.specs.Prelude.{◌≡◌, ◌⊎◌, ℕ, List, ◌++◌, Bool, true, false, [], ◌∷◌, Option, Some, None, Result, Ok, Err, IfSome, codes, decimal, option_map, string_bytes, ⊤}
use Rattle.as2_agreement.specs.Agreements.{AgreedValues}
use Rattle.as2_exchange.specs.State.{State}
use Rattle.as2_exchange.specs.Step.{step}
use Rattle.as2_views.specs.Texts.{fetch}
use Rattle.as2_exchange.specs.declared.answer.Answer.{Answer}
use Rattle.as2_exchange.specs.declared.answer.Answer.TheVariants.{Submitted, Resent, Ticked, Refused}
use Rattle.as2_exchange.specs.declared.answer.Refusal.{Refusal}
use Rattle.as2_exchange.specs.declared.answer.Refusal.TheVariants.{NoSuchNumber}
use Rattle.as2_exchange.specs.declared.event.Event.{Event}
use Rattle.as2_exchange.specs.declared.event.Event.TheVariants as event
use Rattle.as2_exchange.specs.declared.fault.StoreFault.TheVariants as store_fault
use Rattle.as2_exchange.specs.Run.{EventResult as Saying, Answered, Failed, AnEvent}
use Rattle.as2_exchange.specs.declared.fault.StoreFault.{StoreFault}
use Rattle.as2_station.specs.Heads.{submit_refusal}
use Rattle.as2_station.specs.Theorem.{EndsByHistory}
use Rattle.as2_station.specs.declared.said.NewDocument.{NewDocument}
use Rattle.as2_records.specs.Standing.{may_come}
use Rattle.as2_desk.specs.Formats.{listing_in, outstanding_in, show_in}
use Rattle.as2_desk.specs.Endings.{Ends, EndsRefused}
use Rattle.as2_desk.specs.Observed.{Outcome}
use Rattle.as2_desk.specs.Statuses.{status_done}
use Rattle.as2_desk.specs.Written.{Breaks, WritesWhole, WriterSeen}
use Rattle.as2_desk.specs.declared.asking.Printed.{Printed}
use Rattle.as2_desk.specs.declared.asking.Printed.TheVariants.{Number, Requeued, Words, Bytes}
use Rattle.as2_commands.specs.declared.tasks.Question.{Question}
use Rattle.as2_commands.specs.declared.tasks.Question.TheVariants.{Submit, Tick, Resend, List as Listing, Outstanding, Show, Fetch}
use Rattle.as2_desk.specs.declared.refusal.CommandFault.{CommandFault}
use Rattle.as2_desk.specs.declared.refusal.CommandFault.TheVariants.{CannotWrite, Station, Store}
use Rattle.as2_desk.specs.declared.status.Ran.{Ran}
use Rattle.as2_host.specs.declared.stores.OpenFault.TheVariants as open_fault

-- a question, whose document was read
abbrev pub QuestionInHand : Type 0
QuestionInHand = Question NewDocument

-- a number in decimal digits, and LF
abbrev pub number_line : ℕ → List ℕ
number_line n = decimal n ++ codes "\n"

-- the line of a document that is to be sent anew: `resent N`
abbrev pub resent_line : ℕ → List ℕ
resent_line n = codes "resent " ++ number_line n

-- the bytes that are printed
abbrev pub printed_text : Printed → List ℕ
printed_text (Number n) = number_line n
printed_text (Requeued n) = resent_line n
printed_text (Words text) = string_bytes text
printed_text (Bytes bytes) = bytes.items

-- what is to be printed, or why there is nothing
abbrev pub ToPrint : Type 0
ToPrint = Result (List ℕ) CommandFault

-- the same of a value that the program passes on
abbrev pub told_as : Result Printed CommandFault → ToPrint
told_as (Ok printed) = Ok (printed_text printed)
told_as (Err refusal) = Err refusal

-- of a document that is to be sent anew, where that was asked
abbrev pub told_of_resend : QuestionInHand → Option ToPrint
told_of_resend (Resend n) = Some (Ok (resent_line n))
told_of_resend other = None

-- the number of an answer to what was asked, or its refusal; to what is asked here no other comes
abbrev pub told_of : QuestionInHand → Answer → Option ToPrint
told_of q (Submitted n) = Some (Ok (number_line n))
told_of q Resent = told_of_resend q
told_of q (Ticked n) = Some (Ok (number_line n))
told_of q (Refused reason) = Some (Err (Station reason))
told_of q other = None

-- that is told of what was said to such an event
abbrev pub IsToldOf : QuestionInHand → Saying → ToPrint → Type 0
IsToldOf q (Answered answer) told = told_of q answer ≡ Some told
IsToldOf q (Failed fault) told = told ≡ Err (Store (open_fault.Store fault))

-- the text, where an entry has the number
abbrev pub found_told : Option (List ℕ) → ToPrint
found_told (Some text) = Ok text
found_told None = Err (Station NoSuchNumber)

-- what is told of a text that was read, or of why it wasn't
abbrev pub read_told : {V : Type 0} → (V → List ℕ) → Result V StoreFault → ToPrint
read_told text (Ok v) = Ok (text v)
read_told text (Err fault) = Err (Store (open_fault.Store fault))

-- .. of one that only some numbers have
abbrev pub looked_up : {V : Type 0} → (V → List ℕ) → Result (Option V) StoreFault → ToPrint
looked_up text (Ok v) = found_told (option_map text v)
looked_up text (Err fault) = Err (Store (open_fault.Store fault))

-- what is told of an answer, with the state that is left; nothing where the number that is needed is used up
abbrev pub told_by_step : QuestionInHand → Option (Answer × State) → Option (ToPrint × State)
told_by_step q None = None
told_by_step q (Some came) = option_map (λ told. (told, came.1)) (told_of q came.0)

-- what the machine and the views answer in a state at this moment, and the state that they leave
abbrev pub told_by : AgreedValues → ℕ → QuestionInHand → State → Option (ToPrint × State)
told_by A m (Submit d) s = told_by_step (Submit d) (step A s (event.Submit d.organization d.partner d.content m))
told_by A m Tick s = told_by_step Tick (step A s (event.Tick m))
told_by A m (Resend n) s = told_by_step (Resend n) (step A s (event.Resend n m))
told_by A m (Listing filter idle format) s = Some (Ok (listing_in format filter s), s)
told_by A m (Outstanding format) s = Some (Ok (outstanding_in format s m), s)
told_by A m (Show n format) s = Some (found_told (show_in format s n), s)
told_by A m (Fetch n) s = Some (found_told (fetch s n), s)

-- That is told in the state s, and t is left. It is what the machine and the views answer there, or a fault of the store.
-- A fault changes nothing, and is Full only where no number is left.
abbrev pub Tells : AgreedValues → ℕ → QuestionInHand → State → State → ToPrint → Type 0
Tells A m q s t (Err (Store fault)) = (t ≡ s) × (fault ≡ open_fault.Store store_fault.Full → told_by A m q s ≡ None)
Tells A m q s t told = told_by A m q s ≡ Some (told, t)

-- why something is refused without the store: a submission, for its sender, its receiver or its size
abbrev pub refusal_to : AgreedValues → QuestionInHand → Option Refusal
refusal_to A (Submit d) = submit_refusal A d.organization d.partner d.content
refusal_to A other = None

-- it is an event; the others read, and change nothing
abbrev pub is_event : QuestionInHand → Bool
is_event (Submit d) = true
is_event Tick = true
is_event (Resend n) = true
is_event other = false

-- a fault of the store that is told is one that may come of any call, or Full, which comes of events alone
abbrev pub FaultMayCome : QuestionInHand → ToPrint → Type 0
FaultMayCome q (Err (Store open_fault.Held)) = ⊥
FaultMayCome q (Err (Store open_fault.LogAlone)) = ⊥
FaultMayCome q (Err (Store (open_fault.Path fault))) = ⊥
FaultMayCome q (Err (Store (open_fault.Store fault))) = ((fault ≡ store_fault.Full) × (is_event q ≡ true)) ⊎ (may_come fault ≡ true)
FaultMayCome q told = ⊤

-- what stands of each document then is its history, by that event and what was said to it, of which that is told
abbrev pub EndsBy : AgreedValues → QuestionInHand → Event → State → State → ToPrint → Type 0
EndsBy A q e s t told = (said : Saying) × IsToldOf q said told × EndsByHistory A s (AnEvent e said ∷ []) t

-- .. where it is an event
abbrev pub EndsByEvent : AgreedValues → ℕ → QuestionInHand → State → State → ToPrint → Type 0
EndsByEvent A m (Submit d) s t told = EndsBy A (Submit d) (event.Submit d.organization d.partner d.content m) s t told
EndsByEvent A m Tick s t told = EndsBy A Tick (event.Tick m) s t told
EndsByEvent A m (Resend n) s t told = EndsBy A (Resend n) (event.Resend n m) s t told
EndsByEvent A m other s t told = ⊤

-- The text is written, once. Or a write failed: of the text a part is written, and one line says so. Or one line says why there is
-- no text, and nothing is written.
abbrev pub Prints : ToPrint → WriterSeen → WriterSeen → Ran → Type 0
Prints (Ok text) output errors ran = (WritesWhole output text × Ends status_done (codes "") errors ran) ⊎ (Breaks output text × EndsRefused CannotWrite errors ran)
Prints (Err refusal) output errors ran = output.Untouched × EndsRefused refusal errors ran

-- Something was told: why it is refused, where that takes no store; or a fault of the store, of those that may come; or an
-- answer. Where the state is known that the records stood for, that is what is told there. What is left stands for the state
-- that this leaves. Where the question is an event, what stands of each document then is its history.
pub record AnswersQuestion (agreements : AgreedValues) (moment : ℕ) (question : QuestionInHand) (known : Option State) (o : Outcome) (ran : Ran) : Type 0 where
  pub told : ToPrint
  pub refused : (reason : Refusal) → refusal_to agreements question ≡ Some reason → told ≡ Err (Station reason)
  pub fault : FaultMayCome question told
  pub tells : IfSome known (λ s. (t : State) × o.Left t × Tells agreements moment question s t told)
  pub by_history : IfSome known (λ s. (t : State) × o.Left t × EndsByEvent agreements moment question s t told)
  pub prints : Prints told o.output o.errors ran
