use Rattle.std.proofs.Common.{refl}
use Rattle.as2_mdn.proofs.report.notification.Goals as goal

pub returns-clause-text : goal.returns-clause-text
returns-clause-text c = rw (
  c.in_ok-add_mic_line.ensures.added,
  c.in_ok-add_line.ensures,
  c.in_ok-add_identifier.ensures.added,
  c.in_ok-add_name.ensures.added,
  c.in_ok-text.ensures.items,
  c.as_bytes.ensures.value,
  c.text.ensures,
) refl
