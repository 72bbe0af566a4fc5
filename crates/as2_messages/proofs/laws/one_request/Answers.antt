use Rattle.as2_messages.proofs.Alone.{begins_with_one}
use Rattle.as2_messages.proofs.laws.one_request.Goals as goal

pub returns : goal.returns
returns c = begins_with_one
