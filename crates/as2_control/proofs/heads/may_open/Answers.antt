use Rattle.std.proofs.Common.{rules}
use Rattle.std.proofs.lemmas.Slice.Eq.{slice_eq-Decides}
use Rattle.as2_control.specs.Frames.{opening_line}
use Rattle.as2_control.proofs.heads.may_open.Goals as goal

pub returns : goal.returns
unfolding opening_line
returns c = search (rules, slice_eq-Decides)
