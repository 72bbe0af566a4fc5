use Rattle.std.proofs.Common.{ℕ, ◌==◌, if◌then◌else◌, map, refl, ap, ◌∙◌}
use Rattle.as2_exchange.specs.Recording.{requeued_receipt}
use Rattle.as2_exchange.specs.declared.inbox.InEntry.{InEntry}
use Rattle.as2_records.specs.Requeuing.{requeued_in}
use Rattle.as2_lists.proofs.Writing.{writes_from, takes_owed}
use Rattle.as2_lists.proofs.lists.ListsRecords.requeue_receipt.Goals as goal

pub returns-clause-requeued : goal.returns-clause-requeued
returns-clause-requeued c =
    let n = c.args.number in
    let requeued_at = λ (m : ℕ). map (λ (e : InEntry). if e.number == n then requeued_receipt m e else e) c.self.inside.inbox.items in
    writes_from (requeued_in n c.args.moment) c.args.self.now _ _ _ c.self.view_is
    (takes_owed _ n (requeued_receipt c.args.moment) c.set_numbered.new.entries.items (λ e. refl)
    (c.set_numbered.ensures ∙ ap requeued_at c.seconds.ensures.seconds))
