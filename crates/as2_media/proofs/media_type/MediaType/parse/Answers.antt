use Rattle.std.proofs.Common.{◌∙◌}
use Rattle.as2_media.proofs.Readings.{again}
use Rattle.as2_media.proofs.Spellings.{found_by}
use Rattle.as2_media.proofs.media_type.MediaType.parse.Goals as goal

pub returns-clause-found : goal.returns-clause-found
returns-clause-found c = found_by c.args.field.now c.read.result c.read.ensures

pub returns-clause-only : goal.returns-clause-only
returns-clause-only c media m = c.read.ensures ∙ again c.args.field.now media m
