use Rattle.std.proofs.Common.{◌∙◌}
use Rattle.as2_views.proofs.Searching.{found}
use Rattle.as2_views.proofs.lists.is_one_of.Goals as goal

pub returns : goal.returns
returns c rise = c.is_ok.ensures.value ∙ found c.args.numbers.now c.args.number c.binary_search.result rise c.binary_search.ensures.position
