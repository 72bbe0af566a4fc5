use Rattle.as2_hub.proofs.Playing.{promised}
use Rattle.as2_hub.proofs.laws.standing_is_promised.Goals as goal

pub returns : goal.returns
returns c = promised
