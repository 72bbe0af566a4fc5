use Rattle.as2_names.proofs.Printable.{printable_text, read_ok}
use Rattle.as2_names.proofs.identifier.keep.Goals as goal

pub unwrap-text-requires : goal.unwrap-text-requires
unwrap-text-requires c = read_ok _ _ _ _ (printable_text c.args.text.now c.requires.printable) c.from_utf8.ensures.cases
