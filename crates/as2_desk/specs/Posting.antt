-- What a stream of requests comes to.
use Rattle.std.specs.Prelude.{◌≡◌, ◌≤◌, ◌+◌, ℕ, Bool, true, false, List, Option, Some, None, IfSome}
use Rattle.as2_agreement.specs.Agreements.{AgreedValues}
use Rattle.as2_exchange.specs.State.{State}
use Rattle.as2_http.specs.Notes.{sink_and_journal}
use Rattle.as2_http.specs.StreamReads.{RunsPosts, Serves}
use Rattle.as2_http.specs.declared.stream.Served.{Served}
use Rattle.as2_http.specs.declared.stream.Served.TheVariants.{ReadFault, TooLong, WriteFault}
use Rattle.as2_desk.specs.Endings.{Ends}
use Rattle.as2_desk.specs.Observed.{Input, Outcome}
use Rattle.as2_desk.specs.Refusals.{end_line}
use Rattle.as2_desk.specs.Statuses.{exit_status}
use Rattle.as2_desk.specs.Written.{WriterSeen}
use Rattle.as2_desk.specs.declared.status.Ran.{Ran}

-- what a journal holds, where replies are noted in it
abbrev pub if_noted : Bool → Option (List ℕ) → Option (List ℕ)
if_noted true noted = noted
if_noted false noted = None

-- how many reads are made of a stream at most
abbrev pub most_reads : ℕ
most_reads = 100000

-- the cause of an end: a read or a write that failed, which no other end has, or as many reads as are made at most
pub record HasCause (end : Served) (input : Input) (output : WriterSeen) : Type 0 where
  pub read_fault : end ≡ ReadFault → input.HasFailed
  pub sound_reads : ¬ (end ≡ ReadFault) → input.IsSound
  pub write_fault : end ≡ WriteFault → output.HasFailed
  pub sound_writes : ¬ (end ≡ WriteFault) → output.IsSound
  pub reads : input.later ≤ input.calls + most_reads
  pub too_long : end ≡ TooLong → input.later ≡ input.calls + most_reads

-- Where the state is known that the records stood for, what is left stands for the state that posts at this moment led to.
-- Where the reader also tells its bytes, these were the posts among the requests that it begins with. Their replies were
-- written, and noted in a journal that held and holds that. Status and line tell the end, which has its cause.
pub record Posts (agreements : AgreedValues) (moment : ℕ) (known : Option State) (input : Input) (o : Outcome) (ran : Ran) : Type 0 where
  pub noted : Option (List ℕ)
  pub new : Option (List ℕ)
  pub end : Served
  pub cause : HasCause end input o.output
  pub posts : IfSome known (λ s. (t : State) × o.Left t × RunsPosts agreements moment s t)
  pub serves : IfSome known (λ s. (text : List ℕ) → input.before ≡ Some text
      → (t : State) × o.Left t
      × Serves agreements moment s t text input.after (sink_and_journal o.output.before noted) (sink_and_journal o.output.after new) input.calls input.later end)
  pub told : Ends (exit_status end) (end_line end) o.errors ran
