use Rattle.std.proofs.Common.{rules}
use Rattle.as2_control.proofs.Lengths.{spelled_length}
use Rattle.as2_control.proofs.fields.length_of.Goals as goal

pub returns : goal.returns
returns c = spelled_length c.args.bytes.now c.from_be_bytes.result (search rules) (search rules) c.from_be_bytes.ensures
