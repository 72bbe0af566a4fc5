-- What sending comes to, and how that is told.
use Rattle.std.specs.Prelude.{◌≡◌, ℕ, List, Option, IfSome, codes}
use Rattle.as2_agreement.specs.Agreements.{AgreedValues}
use Rattle.as2_exchange.specs.State.{State}
use Rattle.as2_desk.specs.Endings.{Ends, EndsRefused}
use Rattle.as2_desk.specs.Observed.{Outcome}
use Rattle.as2_desk.specs.Statuses.{status_done}
use Rattle.as2_desk.specs.Written.{WriterSeen}
use Rattle.as2_desk.specs.declared.refusal.CommandFault.TheVariants.{CannotWrite, Station, Store}
use Rattle.as2_sending.specs.Exchanges.{Exchange}
use Rattle.as2_sending.specs.Turns.{Sends}
use Rattle.as2_sending.specs.declared.sent.Sent.{Sent}
use Rattle.as2_sending.specs.declared.sent.Sent.TheVariants as sent
use Rattle.as2_desk.specs.declared.status.Ran.{Ran}
use Rattle.as2_host.specs.declared.stores.OpenFault.TheVariants as open_fault

-- nothing is said where nothing more is due; else one line says why it isn't done
abbrev pub TellsSent : Sent → WriterSeen → Ran → Type 0
TellsSent sent.Done errors ran = Ends status_done (codes "") errors ran
TellsSent (sent.Refused reason) errors ran = EndsRefused (Station reason) errors ran
TellsSent (sent.Failed fault) errors ran = EndsRefused (Store (open_fault.Store fault)) errors ran
TellsSent sent.Unwritten errors ran = EndsRefused CannotWrite errors ran

-- Where the state is known that the records stood for, what was due was sent from it. What is left stands for the state that this
-- led to. What went over the links (Exchanged) are its jobs, each with the outcome that was taken. It ends for a line that couldn't
-- be written where a write failed, and only there.
pub record SendsDue (agreements : AgreedValues) (moment : ℕ) (known : Option State) (o : Outcome)
    (Exchanged : List Exchange → Type 0) (ran : Ran) : Type 0 where
  pub end : Sent
  pub sends : IfSome known (λ s. (t : State) × o.Left t × Sends agreements moment s t o.output.before o.output.after (λ text made. Exchanged made) end)
  pub unwritten : end ≡ sent.Unwritten → o.output.HasFailed
  pub sound : ¬ (end ≡ sent.Unwritten) → o.output.IsSound
  pub told : TellsSent end o.errors ran
