use Rattle.std.proofs.Common.{rules}
use Rattle.std.proofs.lemmas.List.{append_assoc}
use Rattle.as2_control.specs.Frames.{length_text, opening_line}
use Rattle.as2_control.proofs.heads.begun.Goals as goal

pub returns : goal.returns
unfolding length_text opening_line
returns c = search (rules, append_assoc)
