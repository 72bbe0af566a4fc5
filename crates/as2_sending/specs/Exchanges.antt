-- What goes over links: a job, and what is answered to it.
use Rattle.std.specs.Prelude.{◌≡◌, List, [], ◌∷◌, ◌++◌}
use Rattle.as2_exchange.specs.Run.{Trace, TraceEntry, AnEvent, EventResult, Answered}
use Rattle.as2_exchange.specs.declared.answer.Answer.TheVariants.{Job as Handed}
use Rattle.as2_exchange.specs.declared.answer.Job.{Job}
use Rattle.as2_exchange.specs.declared.event.Event.{Event}
use Rattle.as2_exchange.specs.declared.event.Event.TheVariants.{Outcome, OutcomeReceipt}
use Rattle.as2_exchange.specs.declared.event.TryAnswer.{TryAnswer}

-- the job whose request went over a link, and what came back
pub record Exchange : Type 0 where
  pub job : Job
  pub got : TryAnswer

-- the exchange that stands between a begin, by what was said to it, and the event behind it
abbrev pub exchange_of : EventResult → Event → List Exchange
exchange_of (Answered (Handed job)) (Outcome n got m) = record { job = job; got = got } ∷ []
exchange_of (Answered (Handed job)) (OutcomeReceipt n got m) = record { job = job; got = got } ∷ []
exchange_of said e = []

-- the same of two that stand so in a trace
abbrev pub exchange_between : TraceEntry → TraceEntry → List Exchange
exchange_between (AnEvent begun said) (AnEvent ended told) = exchange_of said ended
exchange_between one other = []

-- those of events that are a begin and its outcome in turn
abbrev pub exchanges : Trace → List Exchange
exchanges [] = []
exchanges (begun ∷ []) = []
exchanges (begun ∷ ended ∷ more) = exchange_between begun ended ++ exchanges more

-- links answered so, one exchange after the other, and were touched otherwise by nothing; they are as those then
module _ {Links : Type 0} (answers : Links → Job → TryAnswer → Links → Type 0) where
  abbrev pub Exchanges : Links → List Exchange → Links → Type 0
  Exchanges old [] new = new ≡ old
  Exchanges old (x ∷ more) new = (mid : Links) × answers old x.job x.got mid × Exchanges mid more new
