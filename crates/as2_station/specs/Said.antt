-- What is said to each kind of event, as an answer of the machine.
use Rattle.std.specs.Prelude.{ℕ, Result, Ok, Err, ⊤}
use Rattle.as2_exchange.specs.declared.answer.Answer.{Answer}
use Rattle.as2_exchange.specs.declared.answer.Answer.TheVariants.{Submitted, Job as AJob, Settled, Delivered, TryFailed, AlreadySettled, Resent, Refused}
use Rattle.as2_exchange.specs.declared.answer.Job.{Job}
use Rattle.as2_exchange.specs.declared.answer.Refusal.{Refusal}
use Rattle.as2_exchange.specs.declared.event.Event.{Event}
use Rattle.as2_exchange.specs.declared.event.Event.TheVariants.{Begin, BeginReceipt, Outcome, OutcomeReceipt}
use Rattle.as2_exchange.specs.declared.event.TryAnswer.{TryAnswer}
use Rattle.as2_exchange.specs.declared.next.Next.{Next}
use Rattle.as2_exchange.specs.declared.next.Next.TheVariants.{Receipt, Document}
use Rattle.as2_station.specs.declared.said.Became.{Became}
use Rattle.as2_station.specs.declared.said.Became.TheVariants as became

-- to a submission: its number, or a refusal
abbrev pub said_to_submit : Result ℕ Refusal → Answer
said_to_submit (Ok number) = Submitted number
said_to_submit (Err reason) = Refused reason

-- to the begin of a try: the request that is to be sent, or a refusal
abbrev pub said_to_begin : Result Job Refusal → Answer
said_to_begin (Ok job) = AJob job
said_to_begin (Err reason) = Refused reason

-- what became of a try
abbrev pub answer_of : Became → Answer
answer_of (became.Settled detail) = Settled detail
answer_of became.Delivered = Delivered
answer_of became.TryFailed = TryFailed
answer_of became.AlreadySettled = AlreadySettled

-- to the outcome of a try: what became of it, or a refusal
abbrev pub said_to_outcome : Result Became Refusal → Answer
said_to_outcome (Ok became) = answer_of became
said_to_outcome (Err reason) = Refused reason

-- to a resend: the document is to be sent anew, or a refusal
abbrev pub said_to_resend : Result ⊤ Refusal → Answer
said_to_resend (Ok done) = Resent
said_to_resend (Err reason) = Refused reason

-- a try of it begins at this moment
abbrev pub begin_event : Next → ℕ → Event
begin_event (Receipt n) m = BeginReceipt n m
begin_event (Document n) m = Begin n m

-- the try of it got that
abbrev pub outcome_event : Next → TryAnswer → ℕ → Event
outcome_event (Receipt n) got m = OutcomeReceipt n got m
outcome_event (Document n) got m = Outcome n got m
