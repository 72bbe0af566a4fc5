use Rattle.std.proofs.Common.{rules}
use Rattle.as2_names.specs.Blanks.{without_blanks}
use Rattle.as2_names.proofs.blanks.without_blanks.Goals as goal

pub returns : goal.returns
unfolding without_blanks
returns c = search rules
