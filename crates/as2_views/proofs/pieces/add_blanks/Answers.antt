use Rattle.std.proofs.lemmas.List.{take-replicate}
use Rattle.as2_names.specs.Ascii.{space}
use Rattle.as2_views.proofs.pieces.add_blanks.Goals as goal

pub returns : goal.returns
returns c = rw (take-replicate c.args.count 16 space c.requires) at c.add_text.ensures
