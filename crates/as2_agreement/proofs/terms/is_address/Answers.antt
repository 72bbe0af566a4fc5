use Rattle.std.proofs.Common.{◌∙◌}
use Rattle.as2_agreement.proofs.Decided.{parsed_is}
use Rattle.as2_agreement.proofs.terms.is_address.Goals as goal

pub returns : goal.returns
returns c = c.is_some.ensures ∙ parsed_is c.args.text.now c.parse.result c.parse.ensures.found c.parse.ensures.none
