use Rattle.std.proofs.Common.{rules}
use Rattle.std.proofs.lemmas.Fn.{filter_same}
use Rattle.as2_views.proofs.lists.keep_outstanding.Goals as goal

pub returns : goal.returns
returns c = filter_same _ _ _ (λ row b f k. search rules) _ _ c.retain.ensures.filtered
