use Rattle.std.proofs.Common.{rules}
use Rattle.as2_messages.proofs.reply.date_of.Goals as goal

pub returns : goal.returns
returns c = (c.unwrap.result, search rules, search rules)
