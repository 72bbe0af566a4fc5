use Rattle.std.proofs.Common.{rules, tests}
use Rattle.std.proofs.lemmas.Iterator.Search.{all_from_yields_List}
use Rattle.std.proofs.lemmas.Iterator.Splits.{YieldsList-from_slice_split}
use Rattle.as2_text.specs.ReceiptOptions.{is_readable, is_semicolon}
use Rattle.as2_text.proofs.receipt_options.all_readable.Goals as goal

-- the chain looks at each parameter between semicolons
pub returns : goal.returns
returns c =
    all_from_yields_List is_readable _ _ _ c.all.ensures.ran
    (YieldsList-from_slice_split _ is_semicolon c.args.value.now c.split.ensures.rest c.split.ensures.done c.split.ensures.closure
    (λ x b q k. search (rules, tests)))
    (λ x b q k. search (rules, tests))
