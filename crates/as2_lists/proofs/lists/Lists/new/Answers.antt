use Rattle.std.proofs.Common.{refl}
use Rattle.as2_lists.proofs.Counted.{empty_counted}
use Rattle.as2_lists.proofs.lists.Lists.new.Goals as goal

pub returns-clause-stands : goal.returns-clause-stands
returns-clause-stands c =
    rw (c.new.ensures.items, c.new-2.ensures.items)
    (record { same = refl; knows = refl; counted = empty_counted c.args.first c.requires.least c.requires.most })
