use Rattle.as2_parts.proofs.Behind.{behind_stripped}
use Rattle.as2_parts.proofs.marks.behind.Goals as goal

pub returns : goal.returns
returns c = behind_stripped c.args.front.now c.args.text.now c.strip_prefix.result c.strip_prefix.ensures.cases
