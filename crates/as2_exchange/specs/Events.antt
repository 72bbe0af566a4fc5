-- What happens to the station, what it answers, and an event with its answer.
use Rattle.as2_exchange.specs.Versions.{Version}
pub use Rattle.as2_exchange.specs.declared.event.TryAnswer.{TryAnswer}
pub use Rattle.as2_exchange.specs.declared.event.TryAnswer.TheVariants.{NoAnswer, Reply}
pub use Rattle.as2_exchange.specs.declared.event.Event.{Event}
pub use Rattle.as2_exchange.specs.declared.event.Event.TheVariants.{Post, Submit, Begin, Outcome, Resend, BeginReceipt, OutcomeReceipt, Tick}
pub use Rattle.as2_exchange.specs.declared.answer.Refusal.{Refusal}
pub use Rattle.as2_exchange.specs.declared.answer.Refusal.TheVariants.{UnknownOrganization, UnknownPartner, NoSuchNumber, NotDue, AllSettled, NoOpenTry, TriesUsed as TriesUsedUp, TooLarge}
pub use Rattle.as2_exchange.specs.declared.answer.Line.{Line}
pub use Rattle.as2_exchange.specs.declared.answer.Line.TheVariants.{BadNames, BadVersion, UnknownNames, BadType, UnreadableReceipt, NoSuchMessage, BadId, BadAsk, IdUsedBefore, NotProcessed}
pub use Rattle.as2_exchange.specs.declared.answer.HttpBody.{HttpBody}
pub use Rattle.as2_exchange.specs.declared.answer.HttpBody.TheVariants.{Nothing, Words, Report}
pub use Rattle.as2_exchange.specs.declared.answer.HttpAnswer.{HttpAnswer}
pub use Rattle.as2_exchange.specs.declared.answer.Answer.{Answer}
pub use Rattle.as2_exchange.specs.declared.answer.Answer.TheVariants.{Http, Submitted, Job, Settled, Delivered, TryFailed, AlreadySettled, Resent, Ticked, Refused}

-- an event that was answered, with its answer, and the version of the store then
pub record AnsweredEvent : Type 0 where
  pub version : Version
  pub event : Event
  pub answer : Answer
