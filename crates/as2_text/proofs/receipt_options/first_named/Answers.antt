use Rattle.std.proofs.Common.{◌∙◌, sym}
use Rattle.as2_text.proofs.ReceiptOptions.{first_found, first_on, first_whole}
use Rattle.as2_text.proofs.receipt_options.first_named.Goals as goal

pub returns-in-Some-named : goal.returns-in-Some-named
returns-in-Some-named c =
    sym (first_found c.args.name.now c.loop-parameter.rest.now c.in-Some.parameter.now c.in-Some.behind.now c.in-Some-named.option c.in-Some.ensures.cut (sym c.named.ensures ∙ c.in-Some-named.is)) ∙ c.loop-parameter.invariant

pub loop-parameter-preserved : goal.loop-parameter-preserved
loop-parameter-preserved c =
    first_on c.args.name.now c.loop-parameter.rest.now c.in-Some.parameter.now c.in-Some.behind.now c.in-Some.ensures.cut
    (sym c.named.ensures ∙ c.in_default-named.is) ∙ c.loop-parameter.invariant

pub returns : goal.returns
returns c = c.named-2.ensures ∙ sym (first_whole c.args.name.now c.loop-parameter.rest.now c.in_default.ensures.whole) ∙ c.loop-parameter.invariant
