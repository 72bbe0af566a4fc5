use Rattle.std.proofs.Common.{◌≡◌}
use Rattle.as2_records.specs.Progressing.{come_to}
use Rattle.as2_lists.proofs.Changed.{changed_before}
use Rattle.as2_lists.proofs.outbox.set_numbered.Given as goal

abbrev pub invariant-loop-document : goal.invariant-loop-document
invariant-loop-document l = l.document-items ≡ changed_before (λ x. x.number) l.fn.number (come_to l.fn.progress) l.document-index l.fn.documents.items
