use Rattle.std.proofs.Common.{sym, ◌∙◌}
use Rattle.as2_parts.proofs.FieldText.{field_found}
use Rattle.as2_parts.proofs.fields.field_of.Goals as goal

pub returns : goal.returns
returns c = field_found c.args.line.now c.split_at.result.0.now c.split_at.result.1.now c.without_blanks_and_line_ends.result.now c.in-Some.colon
    (sym c.colon_place.ensures.place ∙ c.in-Some.is) c.split_at.ensures.front c.split_at.ensures.back
    (sym c.is_name.ensures ∙ c.if-not-is_name.false) c.without_blanks_and_line_ends.ensures
