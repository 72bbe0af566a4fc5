use Rattle.as2_posts.proofs.Requests.{four}
use Rattle.as2_posts.proofs.sending.add_content_fields.Goals as goal

pub returns : goal.returns
returns c =
    rw (
      c.in_ok-add_line-2.ensures,
      c.in_ok-add_asking.ensures,
      c.in_ok-add_text.ensures,
      c.in_ok-add_line.ensures,
      c.as_bytes.ensures.value,
      c.as_str.ensures.text,
      c.as_bytes-2.ensures.value,
      c.format.ensures.text,
      c.len.ensures,
    ) (four c.args.text.now.items _ _ _ _)
