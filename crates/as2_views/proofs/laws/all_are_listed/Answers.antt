use Rattle.as2_views.proofs.Marks.{all_listed}
use Rattle.as2_views.proofs.laws.all_are_listed.Goals as goal

pub returns : goal.returns
returns c = all_listed
