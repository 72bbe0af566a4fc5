use Rattle.std.proofs.Common.{◌<◌, arith}
use Rattle.as2_records.specs.Adding.{added_document}
use Rattle.as2_lists.proofs.Writing.{writes_from, takes_document}
use Rattle.as2_lists.proofs.lists.ListsRecords.add_out.Goals as goal

pub returns-clause-added : goal.returns-clause-added
returns-clause-added c =
    let small : c.self.inside.next_out < 1000000000000 = omega arith in
    writes_from (added_document c.args.entry.now) c.args.self.now _ _ _ c.self.view_is
    (takes_document _ c.args.entry.now c.add.new.documents.items c.if-entry-self.false small c.in_ok-add.ensures.added)
