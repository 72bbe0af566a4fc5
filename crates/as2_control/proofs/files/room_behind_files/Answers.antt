use Rattle.std.proofs.Common.{string_bytes, length, arith, ap}
use Rattle.std.proofs.lemmas.List.{length-append}
use Rattle.as2_control.specs.Frames.{framed_field}
use Rattle.as2_control.specs.Outcomes.{file_text, file_value}
use Rattle.as2_control.proofs.Sequences.{front_fits}
use Rattle.as2_control.proofs.files.room_behind_files.Goals as goal

pub returns-in_err-left-clause-none : goal.returns-in_err-left-clause-none
returns-in_err-left-clause-none c = rw c.from_residual.ensures (omega (
  arith,
  c.in_err-left.ensures.none,
  ap (λ w. length (framed_field w)) c.as_bytes.ensures.value,
  ap (λ f. length (file_text (file_value f))) c.file-item.is,
  length-append (framed_field (string_bytes c.file-item.result.name)) (framed_field c.file-item.result.content.items),
  front_fits file_text file_value c.args.files.now c.loop-file.file-index c.file-item.result c.loop-file-test.true,
))

pub returns-in_err-left-2-clause-none : goal.returns-in_err-left-2-clause-none
returns-in_err-left-2-clause-none c = rw c.from_residual-in_err-left-2.ensures (omega (
  arith,
  c.in_err-left-2.ensures.none,
  c.in_ok-left.ensures.left,
  ap (λ w. length (framed_field w)) c.as_bytes.ensures.value,
  ap (λ w. length (framed_field w)) c.as_slice.ensures.value,
  ap (λ f. length (file_text (file_value f))) c.file-item.is,
  length-append (framed_field (string_bytes c.file-item.result.name)) (framed_field c.file-item.result.content.items),
  front_fits file_text file_value c.args.files.now c.loop-file.file-index c.file-item.result c.loop-file-test.true,
))
