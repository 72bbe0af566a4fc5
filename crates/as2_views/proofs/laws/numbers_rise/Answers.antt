use Rattle.as2_views.proofs.Listings.{settled_rise}
use Rattle.as2_views.proofs.laws.numbers_rise.Goals as goal

pub returns : goal.returns
returns c = settled_rise
