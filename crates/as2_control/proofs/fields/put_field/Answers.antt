use Rattle.std.proofs.Common.{rules}
use Rattle.std.proofs.lemmas.List.{append_assoc}
use Rattle.as2_control.specs.Frames.{length_text}
use Rattle.as2_control.proofs.fields.put_field.Goals as goal

pub returns : goal.returns
unfolding length_text
returns c = search (rules, append_assoc)
