use Rattle.std.proofs.Common.{arith}
use Rattle.as2_names.proofs.name.quoted_name.Goals as goal

pub loop-i-init : goal.loop-i-init
loop-i-init c = record { scans = c.new-scan.ensures.scans c.args.text.now; counted = omega arith }
