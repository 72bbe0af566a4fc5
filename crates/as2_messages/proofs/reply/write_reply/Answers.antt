use Rattle.std.proofs.Common.{rules}
use Rattle.as2_messages.proofs.reply.write_reply.Goals as goal

pub returns : goal.returns
returns c = (c.date_of.result, c.date_of.ensures, search rules)
