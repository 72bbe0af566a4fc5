use Rattle.as2_names.proofs.Printable.{printable_text, read_ok}
use Rattle.as2_json.proofs.words.name_text.Goals as goal

pub unwrap-requires : goal.unwrap-requires
unwrap-requires c = read_ok _ _ _ _ (rw c.bytes.ensures.bytes (printable_text _ c.bytes.ensures.name.printable)) c.from_utf8.ensures.cases
