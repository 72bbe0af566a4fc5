use Rattle.std.proofs.Common.{refl}
use Rattle.as2_records.specs.Owing.{with_receipt_progress, set_receipt_in}
use Rattle.as2_lists.proofs.Writing.{writes_from, takes_owed}
use Rattle.as2_lists.proofs.lists.ListsRecords.set_receipt.Goals as goal

pub returns-clause-set : goal.returns-clause-set
returns-clause-set c =
    writes_from (set_receipt_in c.args.number c.args.progress) c.args.self.now _ _ _ c.self.view_is
    (takes_owed _ c.args.number (with_receipt_progress c.args.progress) c.set_numbered.new.entries.items (λ e. refl) c.set_numbered.ensures)
