use Rattle.std.proofs.Common.{◌∙◌, sym, arith, length}
use Rattle.std.proofs.lemmas.List.{take_all, drop_all}
use Rattle.as2_text.proofs.Addresses.{cut_before, cut_behind, before_none, from_none}
use Rattle.as2_text.proofs.url.split_at_slash.Goals as goal

pub returns-in-Some-clause-before : goal.returns-in-Some-clause-before
returns-in-Some-clause-before c = c.split_at.ensures.front ∙ cut_before c.args.text.now c.in-Some.before.now _ c.in-Some.ensures.cut

pub returns-in-Some-clause-behind : goal.returns-in-Some-clause-behind
returns-in-Some-clause-behind c = c.split_at.ensures.back ∙ cut_behind c.args.text.now c.in-Some.before.now _ c.in-Some.ensures.cut

pub returns-in-None-clause-before : goal.returns-in-None-clause-before
returns-in-None-clause-before c = c.split_at-in-None.ensures.front ∙ take_all (length c.args.text.now) c.args.text.now (omega arith)
    ∙ sym (before_none c.args.text.now c.in-None.ensures.whole)

pub returns-in-None-clause-behind : goal.returns-in-None-clause-behind
returns-in-None-clause-behind c = c.split_at-in-None.ensures.back ∙ drop_all (length c.args.text.now) c.args.text.now (omega arith)
    ∙ sym (from_none c.args.text.now c.in-None.ensures.whole)
