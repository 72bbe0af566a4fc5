use Rattle.std.proofs.Common.{sym, ◌∙◌}
use Rattle.as2_agreement.proofs.Decided.{address_found}
use Rattle.as2_agreement.proofs.terms.address_in.Goals as goal

pub returns-then-is_address-clause-address : goal.returns-then-is_address-clause-address
returns-then-is_address-clause-address c = address_found c.args.text.now (rw (← c.as_bytes.ensures.value) (sym c.is_address.ensures ∙ c.if-is_address.true))
