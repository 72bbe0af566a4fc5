use Rattle.as2_control.proofs.Sequences.{no_content}
use Rattle.as2_control.proofs.files.first_file.Goals as goal

pub returns-in_err-content-clause-none : goal.returns-in_err-content-clause-none
returns-in_err-content-clause-none c = rw c.from_residual-in_err-content.ensures
    (no_content c.args.text.now c.in_ok-name.name.now c.in_ok-name.rest.now c.in_ok-name.ensures.found c.in_ok-name.ensures.short c.in_err-content.ensures.none)
