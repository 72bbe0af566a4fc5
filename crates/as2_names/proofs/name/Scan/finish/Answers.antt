use Rattle.std.proofs.Common.{arith, sym}
use Rattle.as2_names.proofs.Scanning.{scanned_name}
use Rattle.as2_names.proofs.Spelled.{finish_ok}
use Rattle.as2_names.proofs.name.Scan.finish.Goals as goal

pub invariant_of-result : goal.invariant_of-result
invariant_of-result c = scanned_name c.requires.0 c.args.self.kept.items c.args.self.count c.requires.1 (omega arith) (omega arith)

pub returns : goal.returns
returns c text s = sym (finish_ok text c.args.self.kept.items c.args.self.count s (omega arith) (omega arith))
