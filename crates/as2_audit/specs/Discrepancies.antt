-- Entries that don't agree with what is kept beside them, as findings.
use Rattle.std.specs.Prelude.{List, [], ◌∷◌, Option, Some, None}
use Rattle.as2_records.specs.declared.discrepancy.Discrepancy.{Discrepancy}
use Rattle.as2_records.specs.declared.discrepancy.Discrepancy.TheVariants.{ReceivedNumber, SentNumber, ReceivedWait, SentWait}
use Rattle.as2_audit.specs.declared.fault.Fault.TheVariants.{NeverGiven, WaitsOtherwise}
use Rattle.as2_audit.specs.declared.findings.Finding.{Finding}
use Rattle.as2_audit.specs.declared.findings.Mailbox.TheVariants.{Inbox, Outbox}

-- of which entry a discrepancy is, and what is wrong
abbrev pub finding_of : Discrepancy → Finding
finding_of (ReceivedNumber n) = record { mailbox = Inbox; number = n; fault = NeverGiven }
finding_of (SentNumber n) = record { mailbox = Outbox; number = n; fault = NeverGiven }
finding_of (ReceivedWait n) = record { mailbox = Inbox; number = n; fault = WaitsOtherwise }
finding_of (SentWait n) = record { mailbox = Outbox; number = n; fault = WaitsOtherwise }

-- of one, where there is one
abbrev pub findings_of : Option Discrepancy → List Finding
findings_of None = []
findings_of (Some discrepancy) = finding_of discrepancy ∷ []
