-- The theorem that the station stands on:
--
--     After any list of posts, desk commands, sending outcomes and clock moments, the tables and answers are those of the exchange
--     machine over the accepted ones, and a document stands as successful exactly where the first receipt after its first try that
--     bears its partner's AS2 names and its message identifier says processed without modifier and carries the integrity check of
--     the content sent.
--
-- Its words, and where each is defined; a file without a crate is one of as2_exchange's specs:
--   any list                         Trace, Run.antt: events in any order, each with what was said to it, and one migration at most;
--                                    moments may run backwards
--   posts .. clock moments           Event, as2_exchange/src/event.rt
--   the tables .. are those of       Rests, as2_records/specs/Standing.antt: the records rest on the state; over
--                                    SQLite as2_store/specs/Stands.antt: the tables of the connection stand for it
--   .. answers are those of          Run, Run.antt: an answered event is a step of the machine, and one that failed changes nothing
--   the exchange machine             step, Step.antt, over State, State.antt; empty: a store without entries, of a version
--   the accepted ones                accepted_events, Run.antt: those that were answered, by a refusal too; no fault of the store is an answer
--   a document                       document, State.antt, by its number
--   stands as successful             IsSuccessful, below: class_of, as2_mdn/specs/Details.antt, is S
--   the first receipt after its      first_receipt, History.antt, among the facts of the document, which concerns picks from the
--     first try                      accepted events without any state
--   that bears its partner's AS2     bears, Receipts.antt
--     names and its identifier
--   says processed without modifier  Confirms, as2_mdn/specs/Verdicts.antt, under a digest that was known when the receipt came
--     and carries the integrity check of the content sent
use Rattle.std.specs.Prelude.{◌≡◌, ◌↔◌, ℕ, ◌+◌, ◌<◌, true, false, List, [], ◌∷◌, ◌++◌, Some, None, Result, Ok, Err, IsSomeAnd, IsTrue, map, option_map}
use Rattle.as2_records.specs.Standing.{Medium, Standing}
use Rattle.as2_mdn.specs.Details.{class_of}
use Rattle.as2_mdn.specs.Verdicts.{Confirms}
use Rattle.as2_mdn.specs.declared.detail.DetailClass.TheVariants.{S, E}
use Rattle.as2_exchange.specs.Agreement.{Agreements, Text, partner_of}
use Rattle.as2_exchange.specs.Events.{AnsweredEvent}
use Rattle.as2_exchange.specs.History.{concerns, first_receipt, history, submission_of, submitted_as, history_of}
use Rattle.as2_exchange.specs.Invariants.{IsCounter, IsWellFormed}
use Rattle.as2_exchange.specs.Posts.{ReceivedReceipt}
use Rattle.as2_exchange.specs.Receipts.{bears}
use Rattle.as2_exchange.specs.ReceiptHistory.{receipt_history, receipt_told}
use Rattle.as2_exchange.specs.Readings.{Head, named_by, value_of}
use Rattle.as2_exchange.specs.Run.{EventResult, Answered, Failed, AnEvent, IsOutOfNumbers, Trace, Run, accepted_events, version_after}
use Rattle.as2_exchange.specs.State.{State, Version, document, empty, is_settled, lasting_part, received_entry}
use Rattle.as2_exchange.specs.Step.{is_refusal, step}
use Rattle.as2_exchange.specs.Progress.{given_up}
use Rattle.as2_exchange.specs.declared.inbox.InEntry.{InEntry}
use Rattle.as2_exchange.specs.declared.inbox.ReceiptStage.TheVariants.{Pending}
use Rattle.as2_exchange.specs.declared.outbox.OutEntry.{OutEntry}
use Rattle.as2_exchange.specs.Waiting.{schedule_of, waiting_history}
use Rattle.as2_exchange.specs.declared.answer.Answer.{Answer}
use Rattle.as2_exchange.specs.declared.answer.Answer.TheVariants.{Job as AJob, Resent, Ticked}
use Rattle.as2_exchange.specs.declared.answer.Job.{Job}
use Rattle.as2_exchange.specs.declared.event.Event.{Event}
use Rattle.as2_exchange.specs.declared.event.Event.TheVariants.{Post, Begin, BeginReceipt, Resend, Tick}
use Rattle.as2_exchange.specs.declared.fault.StoreFault.{StoreFault}

-- the document stands as successful
abbrev pub IsSuccessful : State → ℕ → Type 0
IsSuccessful s k = IsSomeAnd (document s k) (λ d. class_of d.detail ≡ S)

-- the first receipt for it after its first try says processed without modifier and carries the integrity check of the content sent,
-- under a digest that was known when it came
abbrev pub IsConfirmed : Agreements → List AnsweredEvent → ℕ → Type 0
IsConfirmed A done k = IsSomeAnd (concerns A done k) (λ it. IsSomeAnd (first_receipt A k it.0 it.1) (λ r. Confirms r.1.known r.1.receipt it.0.content))

-- the document stands as it stood, by its detail and its evidence
abbrev pub StandsAs : OutEntry → State → ℕ → Type 0
StandsAs d s k = IsSomeAnd (document s k) (λ e. (e.detail ≡ d.detail) × (e.evidence ≡ d.evidence))

-- What a further event does.
pub record StepsOn (A : Agreements) (s : State) : Type 0 where
  -- a post that was recorded before and comes again gets the same answer, without a new entry or number
  pub repeats : (old recorded : State) (head : Head) (body : Text) (m n : ℕ) (first : Answer) (between : Trace)
      → step A old (Post head body m) ≡ Some (first, recorded) → old.next_in < recorded.next_in → Run A recorded between s
      → (t : State) × (step A s (Post head body n) ≡ Some (first, t)) × (map lasting_part t.inbox ≡ map lasting_part s.inbox) × (t.next_in ≡ s.next_in) × (t.outbox ≡ s.outbox)
  -- a request is handed out for a document that no receipt has settled, and not more often than is agreed since it was last to be sent anew
  pub sends : (n m : ℕ) (job : Job) (t : State) → step A s (Begin n m) ≡ Some (AJob job, t)
      → (d : OutEntry) × (document s n ≡ Some d) × (is_settled d ≡ false) × IsSomeAnd (partner_of A d.partner) (λ p. d.tries < p.max_tries)
  -- and for a receipt that is still owed, not more often than is agreed since it was queued last
  pub sends_receipts : (n m : ℕ) (job : Job) (t : State) → step A s (BeginReceipt n m) ≡ Some (AJob job, t)
      → (e : InEntry) × (received_entry s n ≡ Some e) × (e.receipt_stage ≡ Pending) × IsSomeAnd (partner_of A e.posted.sender) (λ p. e.tries < p.max_tries)
  -- a document is sent anew only where it is in error and no receipt has settled it
  pub resends : (n m : ℕ) (t : State) → step A s (Resend n m) ≡ Some (Resent, t) → (d : OutEntry) × (document s n ≡ Some d) × (is_settled d ≡ false) × (class_of d.detail ≡ E)
  -- a refusal changes nothing, nor does the outcome of a document that is settled
  pub refuses : (e : Event) (a : Answer) (t : State) → step A s e ≡ Some (a, t) → is_refusal a ≡ true → t ≡ s
  -- a moment is answered by the number of documents that it gives up
  pub counts : (m : ℕ) (a : Answer) (t : State) → step A s (Tick m) ≡ Some (a, t) → (n : ℕ) × (a ≡ Ticked n) × (given_up t ≡ given_up s + n)
  -- and no event is without an answer while there are numbers
  pub answers : (e : Event) → step A s e ≡ None → IsOutOfNumbers s e

-- What stands after a trace from a store of this version without entries is what its accepted events tell.
pub record StandsByHistory (A : Agreements) (v : Version) (trace : Trace) (s : State) : Type 0 where
  -- the store is of that version, until the trace migrates it
  pub version : s.version ≡ version_after v trace
  -- each document is one that was submitted, with the names, the content and the moment of its submission
  pub documents : (k : ℕ) → option_map submission_of (document s k) ≡ submitted_as (accepted_events v trace) k
  -- its detail, its evidence and the number of its tries since it was last to be sent anew are its history's
  pub stands : (k : ℕ) → option_map history_of (document s k) ≡ history A (accepted_events v trace) k
  -- it stands as successful exactly where the first receipt confirms it
  pub success : (k : ℕ) → IsSuccessful s k ↔ IsConfirmed A (accepted_events v trace) k
  -- a receipt is for a document exactly where it came from its partner to its organization and names its identifier
  pub names : (r : ReceivedReceipt) (organization partner id : Text) → IsTrue (bears r organization partner id) ↔ ((organization ≡ r.to) × (partner ≡ r.from) × (value_of id ≡ named_by r.receipt))
  -- what is settled stays so under every further list
  pub settled : (k : ℕ) (d : OutEntry) → document s k ≡ Some d → is_settled d ≡ true → (more : Trace) (t : State) → Run A s more t → StandsAs d t k
  -- its own events tell: another list that has them in the same order gives it the same, whatever else it has
  pub alone : (k first : ℕ) (w : Version) (other : Trace) (t : State) → Run A (empty w first) other t → concerns A (accepted_events v trace) k ≡ concerns A (accepted_events w other) k
      → option_map history_of (document s k) ≡ option_map history_of (document t k)
  -- whether a try of it ever began, whether one is open, and what is due when, are its history's too
  pub waits : (k : ℕ) → option_map schedule_of (document s k) ≡ waiting_history A (accepted_events v trace) k
  -- and so is what stands of the receipt that is owed for a document that came
  pub owed : (n : ℕ) (e : InEntry) → received_entry s n ≡ Some e → receipt_history A (accepted_events v trace) n e.posted ≡ Some (receipt_told e)
  -- numbers, keys and identifiers are distinct, and evidence stands exactly by what a receipt settled
  pub formed : IsWellFormed A s
  -- and a further event does what StepsOn says
  pub further : StepsOn A s

-- where an earlier trace led from a store without entries, of any version, to s, what stands in t is by that trace and this one behind it
abbrev pub EndsByHistory : Agreements → State → Trace → State → Type 0
EndsByHistory A s trace t = (v : Version) (first : ℕ) (before : Trace) → IsCounter first → Run A (empty v first) before s → StandsByHistory A v (before ++ trace) t

-- what is said to an event, where a call tells so much of it
abbrev pub said_as : {A : Type 0} → (A → Answer) → Result A StoreFault → EventResult
said_as told (Ok a) = Answered (told a)
said_as told (Err fault) = Failed fault

-- what stands after a call that took an event is by that event, behind what led to the state that the records rested on
abbrev pub TakesByHistory : {M : Medium} {A : Type 0} → Agreements → Event → (A → Answer) → Standing M → Standing M → Result A StoreFault → Type 0
TakesByHistory A event told old new r = new.IsClean → (s : State) → old.Rests s → (t : State) × new.Rests t × EndsByHistory A s (AnEvent event (said_as told r) ∷ []) t
