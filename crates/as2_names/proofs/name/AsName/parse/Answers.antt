use Rattle.std.proofs.Common.{◌∙◌}
use Rattle.as2_names.proofs.Spelled.{found_by, again}
use Rattle.as2_names.proofs.name.AsName.parse.Goals as goal

pub returns-clause-found : goal.returns-clause-found
returns-clause-found c = found_by c.args.field.now c.read.result c.read.ensures

pub returns-clause-only : goal.returns-clause-only
returns-clause-only c name s = c.read.ensures ∙ again c.args.field.now name s
