use Rattle.std.proofs.Common.{rules, tests}
use Rattle.std.proofs.lemmas.Iterator.Search.{any_from_yields_List}
use Rattle.std.proofs.lemmas.Iterator.Splits.{YieldsList-from_slice_split}
use Rattle.as2_names.specs.Options.{is_comma, is_option}
use Rattle.as2_names.proofs.options.lists.Goals as goal

-- the chain looks at each part between commas
pub returns : goal.returns
returns c =
    any_from_yields_List (is_option c.args.option.now) _ _ _ c.any.ensures.ran
    (YieldsList-from_slice_split _ is_comma c.args.value.now c.split.ensures.rest c.split.ensures.done c.split.ensures.closure
    (λ x b q k. search (rules, tests)))
    (λ x b q k. search (rules, tests))
