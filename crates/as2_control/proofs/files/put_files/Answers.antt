use Rattle.std.proofs.Common.{string_bytes, length, ◌++◌, arith, ◌∙◌, ap}
use Rattle.std.proofs.lemmas.List.{append_assoc}
use Rattle.as2_control.specs.Frames.{framed_field}
use Rattle.as2_control.specs.Outcomes.{file_text, file_value}
use Rattle.as2_control.proofs.Sequences.{front_fits, length-file_text, put_more}
use Rattle.as2_control.proofs.files.put_files.Goals as goal

pub put_field-requires : goal.put_field-requires
put_field-requires c = omega (
  arith,
  c.requires,
  ap length c.as_bytes.ensures.value,
  length-file_text (file_value c.file-item.result),
  ap (λ f. length (file_text (file_value f))) c.file-item.is,
  front_fits file_text file_value c.args.files.now c.loop-file.file-index c.file-item.result c.loop-file-test.true,
)

pub put_field-requires-in-loop-file : goal.put_field-requires-in-loop-file
put_field-requires-in-loop-file c = omega (
  arith,
  c.requires,
  ap length c.as_slice.ensures.value,
  length-file_text (file_value c.file-item.result),
  ap (λ f. length (file_text (file_value f))) c.file-item.is,
  front_fits file_text file_value c.args.files.now c.loop-file.file-index c.file-item.result c.loop-file-test.true,
)

pub loop-file-preserved : goal.loop-file-preserved
loop-file-preserved c =
    put_more file_text file_value c.args.files.now c.loop-file.file-index c.file-item.result c.args.text.now.items c.loop-file.text.items
    c.put_field-in-loop-file.new.text.items c.loop-file-test.true c.file-item.is c.loop-file.invariant
    (c.in_ok-put_field-2.ensures
    ∙ (ap (λ w. c.put_field.new.text.items ++ framed_field w) c.as_slice.ensures.value
    ∙ (ap (λ l. l ++ framed_field c.file-item.result.content.items)
    (c.in_ok-put_field.ensures ∙ ap (λ w. c.loop-file.text.items ++ framed_field w) c.as_bytes.ensures.value)
    ∙ append_assoc c.loop-file.text.items (framed_field (string_bytes c.file-item.result.name)) (framed_field c.file-item.result.content.items))))
