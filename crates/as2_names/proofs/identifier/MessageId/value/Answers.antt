use Rattle.as2_names.proofs.Printable.{value_text, read_ok}
use Rattle.as2_names.proofs.identifier.MessageId.value.Goals as goal

pub unwrap-requires : goal.unwrap-requires
unwrap-requires c =
    read_ok _ _ _ _ (rw (c.without_brackets.ensures, c.as_bytes.ensures.value) (value_text _ c.self.invariant.printable)) c.from_utf8.ensures.cases
