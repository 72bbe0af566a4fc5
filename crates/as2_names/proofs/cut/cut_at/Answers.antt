use Rattle.std.proofs.Common.{sym, arith}
use Rattle.as2_names.proofs.Cuts.{lacks_more, lacks_all, cut_here, cut_some, cut_none}
use Rattle.as2_names.proofs.cut.cut_at.Goals as goal

pub loop-i-preserved : goal.loop-i-preserved
loop-i-preserved c = lacks_more c.args.byte c.args.text.now c.loop-i.i c.loop-i-test.true c.loop-i.invariant c.if-b-byte.false

pub returns-clause-whole : goal.returns-clause-whole
returns-clause-whole c = lacks_all c.args.byte c.args.text.now c.loop-i.i (omega arith) c.loop-i.invariant

pub returns-clause-exact : goal.returns-clause-exact
returns-clause-exact c = sym (cut_none c.args.byte c.args.text.now (returns-clause-whole c))

pub returns-then-b-byte-clause-cut : goal.returns-then-b-byte-clause-cut
returns-then-b-byte-clause-cut c = cut_here c.args.byte c.args.text.now c.loop-i.i c.loop-i-test.true c.if-b-byte.true c.loop-i.invariant

pub returns-then-b-byte-clause-exact : goal.returns-then-b-byte-clause-exact
returns-then-b-byte-clause-exact c = sym (cut_some c.args.byte c.args.text.now _ _ (returns-then-b-byte-clause-cut c))
