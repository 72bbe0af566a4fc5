use Rattle.std.proofs.Common.{rules}
use Rattle.as2_messages.proofs.Parsing.{tells_not_blank}
use Rattle.as2_messages.proofs.parser.RequestParser.is_blank.Goals as goal

pub returns-else-is_none : goal.returns-else-is_none
returns-else-is_none c = λ text holds. tells_not_blank c.args.self.now.head c.args.self.now.awaited text c.is_none.result (search rules) (search rules) holds
