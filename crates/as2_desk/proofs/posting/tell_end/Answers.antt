use Rattle.as2_desk.proofs.StreamEnds.{told_end}
use Rattle.as2_desk.proofs.posting.tell_end.Goals as goal

pub returns-in_default : goal.returns-in_default
returns-in_default g c = told_end c.args.end _ c.refuse.result c.in_default.not-Closed c.refuse.ensures.told
