use Rattle.std.proofs.Common.{sym, ◌∙◌}
use Rattle.as2_agreement.proofs.Decided.{content_type_found}
use Rattle.as2_agreement.proofs.terms.content_type_at.Goals as goal

pub returns-then-is_content_type-clause-content_type : goal.returns-then-is_content_type-clause-content_type
returns-then-is_content_type-clause-content_type c =
    content_type_found c.in_ok-text.text.now (rw (← c.as_bytes.ensures.value) (sym c.is_content_type.ensures ∙ c.if-is_content_type.true))
