use Rattle.std.proofs.Common.{sym, ◌∙◌}
use Rattle.as2_names.proofs.Scanning.{scans_unit, step_escaped, step_printable, special_printable}
use Rattle.as2_names.proofs.name.Scan.take.Goals as goal

pub returns-else-not-is_special-clause-goes_on : goal.returns-else-not-is_special-clause-goes_on
returns-else-not-is_special-clause-goes_on c text rest s =
    let special = sym c.is_special.ensures ∙ c.if-not-is_special.false in
    rw (c.add.ensures.count, c.add.ensures.escaping)
    (scans_unit text _ _ _ _ c.args.b rest s (step_escaped _ c.args.b rest c.if-self.true special) (special_printable c.args.b special) c.add.ensures.kept)

pub returns-then-is_printable-clause-goes_on : goal.returns-then-is_printable-clause-goes_on
returns-then-is_printable-clause-goes_on c text rest s =
    let printable = sym c.is_printable.ensures ∙ c.if-is_printable.true in
    rw (c.add-then-is_printable.ensures.count, c.add-then-is_printable.ensures.escaping)
    (scans_unit text _ _ _ _ c.args.b rest s
    (step_printable _ c.args.b rest c.if-self.false
    (c.requires.inside c.if-self.false) c.if-b-eq92.false printable) printable c.add-then-is_printable.ensures.kept)
