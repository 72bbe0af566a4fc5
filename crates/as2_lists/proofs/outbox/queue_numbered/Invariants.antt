use Rattle.std.proofs.Common.{◌≡◌}
use Rattle.as2_records.specs.Resending.{queued_anew}
use Rattle.as2_lists.proofs.Changed.{changed_before}
use Rattle.as2_lists.proofs.outbox.queue_numbered.Given as goal

abbrev pub invariant-loop-document : goal.invariant-loop-document
invariant-loop-document l = l.document-items ≡ changed_before (λ x. x.number) l.fn.number (queued_anew l.fn.moment) l.document-index l.fn.documents.items
