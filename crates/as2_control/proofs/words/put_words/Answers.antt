use Rattle.std.proofs.Common.{string_bytes, length, ◌++◌, arith, ◌∙◌, ap}
use Rattle.as2_control.specs.Frames.{framed_field}
use Rattle.as2_control.proofs.Lengths.{length-framed_field}
use Rattle.as2_control.proofs.Sequences.{front_fits, put_more}
use Rattle.as2_control.proofs.words.put_words.Goals as goal

pub put_field-requires : goal.put_field-requires
put_field-requires c = omega (
  arith,
  c.requires,
  length-framed_field c.as_bytes.result.now,
  ap (λ w. length (framed_field w)) (c.as_bytes.ensures.value ∙ ap string_bytes c.word-item.is),
  front_fits framed_field string_bytes c.args.words.now c.loop-word.word-index c.word-item.result c.loop-word-test.true,
)

pub loop-word-preserved : goal.loop-word-preserved
loop-word-preserved c =
    put_more framed_field string_bytes c.args.words.now c.loop-word.word-index c.word-item.result c.args.text.now.items c.loop-word.text.items
    c.put_field.new.text.items c.loop-word-test.true c.word-item.is c.loop-word.invariant
    (c.in_ok-put_field.ensures ∙ ap (λ w. c.loop-word.text.items ++ framed_field w) c.as_bytes.ensures.value)
