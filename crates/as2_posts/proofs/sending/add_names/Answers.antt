use Rattle.as2_posts.proofs.Requests.{four}
use Rattle.as2_posts.proofs.sending.add_names.Goals as goal

pub returns : goal.returns
returns c =
    rw (
      c.in_ok-add_line-3.ensures,
      c.in_ok-add_line-2.ensures,
      c.in_ok-add_line.ensures,
      c.in_ok-add_text.ensures,
      c.as_bytes.ensures.value,
      c.as_str.ensures.value,
      c.spelling.ensures.text,
      c.as_bytes-2.ensures.value,
      c.as_str-2.ensures.value,
      c.spelling-2.ensures.text,
      c.as_bytes-3.ensures.value,
      c.as_received.ensures.text,
    ) (four c.args.text.now.items _ _ _ _)
