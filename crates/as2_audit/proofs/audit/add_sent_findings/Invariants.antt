use Rattle.std.proofs.Common.{◌≡◌, map}
use Rattle.as2_records.specs.Summaries.{out_summary}
use Rattle.as2_audit.specs.Audits.{finding_at, is_migrated, sent_at}
use Rattle.as2_audit.specs.declared.findings.Mailbox.TheVariants.{Outbox}
use Rattle.as2_audit.proofs.Audited.{SoFar}
use Rattle.as2_audit.proofs.audit.add_sent_findings.Given as goal

abbrev pub invariant-loop-at : goal.invariant-loop-at
invariant-loop-at g l =
    SoFar (λ s rows. (is_migrated s ≡ l.migrated) × (rows ≡ map out_summary s.outbox)) (λ s row. finding_at Outbox row.number (sent_at s row.number))
    (g.R.Records.shows l.fn.records) (g.R.Records.shows l.records) l.fn.findings.items l.findings.items l.at l.row-items
