use Rattle.std.proofs.Common.{◌<◌, arith}
use Rattle.as2_records.specs.Adding.{state_with}
use Rattle.as2_lists.proofs.Writing.{writes_from, takes_received}
use Rattle.as2_lists.proofs.lists.ListsRecords.add_in.Goals as goal

pub returns-clause-added : goal.returns-clause-added
returns-clause-added c =
    let small : c.self.inside.next_in < 1000000000000 = omega arith in
    writes_from (state_with c.args.entry.now) c.args.self.now _ _ _ c.self.view_is
    (takes_received _ c.args.entry.now c.add.new.entries.items c.if-entry-self.false small c.in_ok-add.ensures.added)
