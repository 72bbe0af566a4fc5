use Rattle.std.proofs.Common.{refl}
use Rattle.as2_mdn.proofs.report.head_fields.Goals as goal

pub returns : goal.returns
returns c = rw (
  c.in_ok-add_line-3.ensures,
  c.in_ok-add_line-2.ensures,
  c.in_ok-add_line.ensures,
  c.in_ok-text.ensures,
  c.deref.ensures.value,
  c.in_ok-report_id.ensures,
  c.deref-2.ensures.value,
  c.in_ok-content_type.ensures,
  c.as_bytes.ensures.value,
  c.format.ensures.text,
) refl
