use Rattle.std.proofs.Common.{string_bytes, length, arith, ◌∙◌, ap}
use Rattle.as2_control.specs.Frames.{framed_field}
use Rattle.as2_control.proofs.Sequences.{front_fits}
use Rattle.as2_control.proofs.words.room_behind_words.Goals as goal

pub returns-in_err-left-clause-none : goal.returns-in_err-left-clause-none
returns-in_err-left-clause-none c = rw c.from_residual.ensures (omega (
  arith,
  c.in_err-left.ensures.none,
  ap (λ w. length (framed_field w)) (c.as_bytes.ensures.value ∙ ap string_bytes c.word-item.is),
  front_fits framed_field string_bytes c.args.words.now c.loop-word.word-index c.word-item.result c.loop-word-test.true,
))
