use Rattle.std.proofs.Common.{rules, sym, ◌∙◌}
use Rattle.as2_control.specs.Outcomes.{part_value}
use Rattle.as2_control.proofs.Sequences.{read_more, shorter_behind_file}
use Rattle.as2_control.proofs.Texts.{misspelt_name, no_file_more}
use Rattle.as2_control.proofs.files.is_files.Goals as goal

pub returns-then-is_err-clause-no : goal.returns-then-is_err-clause-no
returns-then-is_err-clause-no c _ = misspelt_name c.args.text.now c.loop-part.rest.now (part_value c.in-Some.part)
    c.in-Some.part.behind.now c.loop-part.invariant c.requires c.in-Some.ensures.found (search rules)

pub loop-part-smaller : goal.loop-part-smaller
loop-part-smaller c = shorter_behind_file c.loop-part.rest.now (part_value c.in-Some.part)
    c.in-Some.part.behind.now c.in-Some.ensures.found

pub loop-part-preserved : goal.loop-part-preserved
loop-part-preserved c = read_more _ _ c.args.text.now c.loop-part.rest.now c.loop-part.invariant
    (part_value c.in-Some.part) c.in-Some.part.behind.now c.in-Some.ensures.found (search rules)

pub returns-clause-no : goal.returns-clause-no
returns-clause-no c is = no_file_more c.args.text.now c.loop-part.rest.now c.loop-part.invariant c.requires c.in_default.ensures.none
    (sym c.is_empty.ensures ∙ is)
