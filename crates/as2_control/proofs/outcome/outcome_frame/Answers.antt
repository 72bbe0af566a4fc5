use Rattle.std.proofs.Common.{◌++◌, ◌∙◌, map, ap, arith}
use Rattle.as2_control.specs.Frames.{framed_field}
use Rattle.as2_control.specs.Outcomes.{file_value, files_text, outcome_value}
use Rattle.as2_control.proofs.Bodies.{are_named, put_outcome}
use Rattle.as2_control.proofs.outcome.outcome_frame.Goals as goal

pub returns-clause-framed : goal.returns-clause-framed
returns-clause-framed c = record {
  frame = put_outcome (outcome_value c.args.outcome.now) c.in-Some.len c.in_ok-frame.frame.items c.put_field.new.text.items c.put_field-2.new.text.items
      c.put_field-3.new.text.items c.put_files.new.text.items c.in-Some.ensures.fits (omega arith) c.in_ok-frame.ensures c.in_ok-put_field.ensures
      (c.in_ok-put_field-2.ensures ∙ ap (λ w. c.put_field.new.text.items ++ framed_field w) c.deref.ensures.value)
      (c.in_ok-put_field-3.ensures ∙ ap (λ w. c.put_field-2.new.text.items ++ framed_field w) c.deref-2.ensures.value)
      (c.in_ok-put_files.ensures ∙ ap (λ w. c.put_field-3.new.text.items ++ files_text (map file_value w)) c.deref-3.ensures.value);
  named = are_named c.args.outcome.now.files.items;
}
