use Rattle.std.proofs.Common.{sym, ◌∙◌}
use Rattle.as2_names.proofs.Spelled.{all_text_printable}
use Rattle.as2_names.proofs.name.atomic_name.Goals as goal

pub fit-requires : goal.fit-requires
fit-requires c = all_text_printable c.args.text.now (sym c.all_text.ensures ∙ c.if-not-all_text.false)
