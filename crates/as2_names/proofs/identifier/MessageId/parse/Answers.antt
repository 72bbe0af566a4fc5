use Rattle.as2_names.proofs.Trimmed.{without_blanks_again}
use Rattle.as2_names.proofs.identifier.MessageId.parse.Goals as goal

pub identify-requires : goal.identify-requires
identify-requires c = rw c.without_blanks.ensures (without_blanks_again c.args.field.now)
