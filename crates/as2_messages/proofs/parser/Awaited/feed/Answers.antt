use Rattle.std.proofs.Common.{refl}
use Rattle.as2_messages.proofs.Parsing.{awaited_fed}
use Rattle.as2_messages.proofs.parser.Awaited.feed.Goals as goal

pub returns-clause-fed : goal.returns-clause-fed
returns-clause-fed c = awaited_fed c.args.self.now _ c.args.rest.now c.feed.result refl refl refl refl c.feed.ensures.fed
