use Rattle.std.proofs.Common.{◌≡◌, map}
use Rattle.as2_records.specs.Summaries.{in_summary}
use Rattle.as2_audit.specs.Audits.{finding_at, received_at}
use Rattle.as2_audit.specs.declared.findings.Mailbox.TheVariants.{Inbox}
use Rattle.as2_audit.proofs.Audited.{SoFar}
use Rattle.as2_audit.proofs.audit.add_received_findings.Given as goal

abbrev pub invariant-loop-at : goal.invariant-loop-at
invariant-loop-at g l =
    SoFar (λ s rows. rows ≡ map in_summary s.inbox) (λ s row. finding_at Inbox row.number (received_at s row.number))
    (g.R.Records.shows l.fn.records) (g.R.Records.shows l.records) l.fn.findings.items l.findings.items l.at l.row-items
