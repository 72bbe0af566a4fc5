use Rattle.as2_names.proofs.Told.{field_kept}
use Rattle.as2_names.proofs.head.Field.new.Goals as goal

pub invariant_of-result : goal.invariant_of-result
invariant_of-result c =
    rw (c.in_ok-to_ascii_lowercase.ensures.ok, c.in_ok-from_slice.ensures.items, c.without_blanks.ensures) (field_kept c.args.name.now c.args.value.now)
