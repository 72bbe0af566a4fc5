use Rattle.std.proofs.Common.{rules, ◌++◌, ◌∙◌, length, map, string_bytes, ap, arith}
use Rattle.std.proofs.lemmas.List.{length-map}
use Rattle.as2_control.specs.Demands.{demand_value, words_text}
use Rattle.as2_control.specs.Frames.{framed_field}
use Rattle.as2_control.proofs.Bodies.{are_spelled, put_demand}
use Rattle.as2_control.proofs.demand.demand_frame.Goals as goal

pub returns-clause-framed : goal.returns-clause-framed
returns-clause-framed c = record {
  frame = put_demand (demand_value c.args.demand.now) c.in-Some.len c.in_ok-frame.frame.items c.put_field.new.text.items c.put_field-2.new.text.items
      c.put_words.new.text.items c.in-Some.ensures.fits c.in-Some.ensures.within c.in_ok-frame.ensures c.in_ok-put_field.ensures
      (c.in_ok-put_field-2.ensures ∙ ap (λ w. c.put_field.new.text.items ++ framed_field w) c.deref.ensures.value)
      (c.in_ok-put_words.ensures ∙ ap (λ w. c.put_field-2.new.text.items ++ words_text (map string_bytes w)) c.deref-2.ensures.value);
  checksum = search rules;
  few = omega (
    arith,
    length-map c.args.demand.now.words.items string_bytes,
    ap length c.deref-2.ensures.value,
    c.deref-2.ensures.len,
    c.len.ensures,
    c.if-len-gt-MOST_WORDS.false,
  );
  spelled = are_spelled c.args.demand.now.words.items;
}
