use Rattle.std.proofs.Common.{rules, tests}
use Rattle.std.specs.Prelude.{not}
use Rattle.std.proofs.lemmas.Iterator.Search.{all_from_yields_List}
use Rattle.std.proofs.lemmas.Iterator.Splits.{YieldsList-from_slice_split}
use Rattle.as2_names.specs.Options.{is_comma}
use Rattle.as2_text.specs.ReceiptOptions.{is_empty}
use Rattle.as2_text.proofs.receipt_option.are_values.Goals as goal

-- the chain looks at each value between commas
pub returns : goal.returns
returns c =
    all_from_yields_List (λ value. not (is_empty value)) _ _ _ c.all.ensures.ran
    (YieldsList-from_slice_split _ is_comma c.args.text.now c.split.ensures.rest c.split.ensures.done c.split.ensures.closure
    (λ x b q k. search (rules, tests)))
    (λ x b q k. search (rules, tests))
