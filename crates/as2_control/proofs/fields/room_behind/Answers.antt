use Rattle.std.proofs.Common.{rules}
use Rattle.as2_control.proofs.Lengths.{length-framed_field}
use Rattle.as2_control.proofs.fields.room_behind.Goals as goal

pub returns-in_err-checked_sub-clause-none : goal.returns-in_err-checked_sub-clause-none
returns-in_err-checked_sub-clause-none c = rw (length-framed_field) (search rules)

pub returns-clause-left : goal.returns-clause-left
returns-clause-left c = rw (length-framed_field) (search rules)

pub returns-clause-none : goal.returns-clause-none
returns-clause-none c = rw (length-framed_field) (search rules)
