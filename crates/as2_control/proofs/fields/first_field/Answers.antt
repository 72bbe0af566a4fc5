use Rattle.std.proofs.Common.{rules, arith}
use Rattle.as2_control.proofs.Lengths.{no_field, no_length, none_then}
use Rattle.as2_control.proofs.fields.first_field.Goals as goal

pub returns-in_err-bytes-clause-none : goal.returns-in_err-bytes-clause-none
returns-in_err-bytes-clause-none c = rw c.from_residual.ensures (no_length c.args.text.now (search rules))

pub returns-clause-none : goal.returns-clause-none
returns-clause-none c = none_then c.split_at_checked.result _ c.split_at_checked.ensures.cases
    (no_field c.args.text.now c.in_ok-bytes.bytes.now c.in_ok-bytes.rest.now c.length_of.result
    c.in_ok-bytes.ensures.cases.0 c.in_ok-bytes.ensures.cases.1 c.length_of.ensures (omega arith))
