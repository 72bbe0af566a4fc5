use Rattle.std.proofs.Common.{◌≡◌}
use Rattle.as2_records.specs.Owing.{with_receipt_progress}
use Rattle.as2_lists.proofs.Changed.{changed_before}
use Rattle.as2_lists.proofs.inbox.set_numbered.Given as goal

abbrev pub invariant-loop-entry : goal.invariant-loop-entry
invariant-loop-entry l = l.entry-items ≡ changed_before (λ x. x.number) l.fn.number (with_receipt_progress l.fn.progress) l.entry-index l.fn.entries.items
