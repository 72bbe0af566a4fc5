use Rattle.as2_messages.proofs.Alone.{refuses_in_one_way}
use Rattle.as2_messages.proofs.laws.one_refusal.Goals as goal

pub returns : goal.returns
returns c = refuses_in_one_way
