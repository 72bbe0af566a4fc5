use Rattle.std.proofs.Common.{◌∙◌}
use Rattle.as2_mdn.proofs.Reading.{found_by, again}
use Rattle.as2_mdn.proofs.disposition.Disposition.parse.Goals as goal

pub returns-clause-found : goal.returns-clause-found
returns-clause-found c = found_by c.args.value.now c.read.result c.read.ensures

pub returns-clause-only : goal.returns-clause-only
returns-clause-only c disposition d = c.read.ensures ∙ again c.args.value.now disposition d
