use Rattle.std.proofs.Common.{sym, ◌∙◌}
use Rattle.as2_records.specs.Expiring.{ticked_in}
use Rattle.as2_lists.proofs.Writing.{writes_from, takes_ticked, ticked_told}
use Rattle.as2_lists.proofs.lists.ListsRecords.expire.Goals as goal

pub returns-clause-passed : goal.returns-clause-passed
returns-clause-passed c =
    writes_from (ticked_in c.args.moment) c.args.self.now _ _ _ c.self.view_is
    (takes_ticked _ c.args.moment c.expire.new.documents.items c.expire.ensures.passed)

pub returns-clause-counted : goal.returns-clause-counted
returns-clause-counted c = λ clean s rests. ticked_told _ s c.args.moment c.expire.result (c.self.view_is ∙ sym rests.same) c.expire.ensures.counted
