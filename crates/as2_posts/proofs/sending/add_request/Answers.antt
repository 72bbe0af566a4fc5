use Rattle.std.proofs.Common.{append_assoc}
use Rattle.as2_posts.proofs.sending.add_request.Goals as goal

pub returns : goal.returns
returns c = rw (
  c.in_ok-add_line-2.ensures,
  c.in_ok-add_line.ensures,
  c.bytes.ensures.bytes,
  c.domain.ensures,
  c.as_bytes.ensures.value,
  c.name.ensures,
) (append_assoc c.args.text.now.items _ _)
