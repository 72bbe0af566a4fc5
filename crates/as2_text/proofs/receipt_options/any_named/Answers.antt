use Rattle.std.proofs.Common.{◌∙◌, ap}
use Rattle.std.specs.Option.{is_some}
use Rattle.as2_text.specs.ReceiptOptions.{options_in}
use Rattle.as2_text.proofs.ReceiptOptions.{found_any}
use Rattle.as2_text.proofs.receipt_options.any_named.Goals as goal

pub returns : goal.returns
returns c = c.is_some.ensures ∙ ap is_some c.first_named.ensures ∙ found_any c.args.name.now (options_in c.args.value.now)
