use Rattle.std.proofs.Common.{rules, tests, ◌∙◌}
use Rattle.std.specs.List.{slice_split}
use Rattle.std.proofs.lemmas.Iterator.Search.{any_from_yields_List}
use Rattle.std.proofs.lemmas.Iterator.Splits.{YieldsList-from_slice_split}
use Rattle.as2_text.specs.ReceiptOptions.{is_required_other, is_semicolon, option_of}
use Rattle.as2_text.proofs.ReceiptOptions.{required_among}
use Rattle.as2_text.proofs.receipt_options.other_required.Goals as goal

-- the chain looks at each parameter between semicolons
pub returns : goal.returns
returns c =
    any_from_yields_List (λ text. is_required_other (option_of text)) _ _ _ c.any.ensures.ran
    (YieldsList-from_slice_split _ is_semicolon c.args.value.now c.split.ensures.rest c.split.ensures.done c.split.ensures.closure
    (λ x b q k. search (rules, tests)))
    (λ x b q k. search (rules, tests))
    ∙ required_among (slice_split is_semicolon c.args.value.now)
