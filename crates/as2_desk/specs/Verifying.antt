-- The records are looked through: what is printed, and the status.
use Rattle.std.specs.Prelude.{◌≡◌, ◌⊎◌, ◌==◌, ℕ, Option, Result, Ok, Err, IfErr, IfSome, true, codes, length, if◌then◌else◌, ⊤}
use Rattle.as2_exchange.specs.State.{State}
use Rattle.as2_exchange.specs.declared.fault.StoreFault.{StoreFault}
use Rattle.as2_records.specs.Standing.{may_come}
use Rattle.as2_audit.specs.Audits.{findings}
use Rattle.as2_audit.specs.declared.verifying.Verification.{Verification}
use Rattle.as2_commands.specs.declared.tasks.Format.{Format}
use Rattle.as2_desk.specs.Endings.{Ends, EndsRefused}
use Rattle.as2_desk.specs.Formats.{verification_in}
use Rattle.as2_desk.specs.Observed.{Outcome}
use Rattle.as2_desk.specs.Statuses.{status_done, status_refused}
use Rattle.as2_desk.specs.Written.{Breaks, WritesWhole, WriterSeen}
use Rattle.as2_desk.specs.declared.refusal.CommandFault.TheVariants.{CannotWrite, Store}
use Rattle.as2_desk.specs.declared.status.Ran.{Ran}
use Rattle.as2_host.specs.declared.stores.OpenFault.TheVariants as open_fault

-- it is 1 where there is a finding
abbrev pub audit_status : ℕ → ℕ
audit_status found = if found == 0 then status_done else status_refused

-- The lines are written, and the status tells whether there is a finding. Or a write failed behind a part of them. Or a fault of the store
-- is told, and nothing is written.
abbrev pub PrintsAudit : Result Verification StoreFault → WriterSeen → WriterSeen → Ran → Type 0
PrintsAudit (Ok audit) output errors ran =
    (WritesWhole output audit.text.items × Ends (audit_status audit.findings) (codes "") errors ran) ⊎ (Breaks output audit.text.items × EndsRefused CannotWrite errors ran)
PrintsAudit (Err fault) output errors ran = output.Untouched × EndsRefused (Store (open_fault.Store fault)) errors ran

-- the lines are those of the state, and there are so many findings as are counted
abbrev pub IsAuditOf : Format → State → Result Verification StoreFault → Type 0
IsAuditOf format s (Ok audit) = (audit.text.items ≡ verification_in format s) × (audit.findings ≡ length (findings s))
IsAuditOf format s (Err fault) = ⊤

-- where the state is known that the records stood for, they stand for it still, and what is printed is of it
pub record Verifies (format : Format) (known : Option State) (o : Outcome) (ran : Ran) : Type 0 where
  pub came : Result Verification StoreFault
  -- a fault is one that may come of any call
  pub fault : IfErr came (λ f. may_come f ≡ true)
  pub audits : IfSome known (λ s. o.Left s × IsAuditOf format s came)
  pub prints : PrintsAudit came o.output o.errors ran
