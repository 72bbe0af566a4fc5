use Rattle.as2_messages.proofs.Dated.{replies_in_one_way}
use Rattle.as2_messages.proofs.laws.one_reply_text.Goals as goal

pub returns : goal.returns
returns c = replies_in_one_way
