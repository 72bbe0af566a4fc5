use Rattle.std.proofs.Common.{◌∙◌, sym}
use Rattle.as2_text.proofs.ReceiptOptions.{twice_found, distinct_on, distinct_whole}
use Rattle.as2_text.proofs.receipt_options.are_distinct.Goals as goal

pub returns-then-is_named_again : goal.returns-then-is_named_again
returns-then-is_named_again c =
    twice_found c.loop-parameter.rest.now c.in-Some.parameter.now c.in-Some.behind.now c.in-Some.ensures.cut
    (sym c.is_named_again.ensures ∙ c.if-is_named_again.true) ∙ c.loop-parameter.invariant

pub loop-parameter-preserved : goal.loop-parameter-preserved
loop-parameter-preserved c =
    distinct_on c.loop-parameter.rest.now c.in-Some.parameter.now c.in-Some.behind.now c.in-Some.ensures.cut
    (sym c.is_named_again.ensures ∙ c.if-is_named_again.false) ∙ c.loop-parameter.invariant

pub returns : goal.returns
returns c = distinct_whole c.loop-parameter.rest.now c.in_default.ensures.whole ∙ c.loop-parameter.invariant
