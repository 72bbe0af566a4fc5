use Rattle.as2_live.proofs.Going.{on_none, on_then}
use Rattle.as2_loop.proofs.shell.Shell.lose.Goals as goal

pub loop-at-init : goal.loop-at-init
loop-at-init g c = on_none g.K.Records.shows c.args.round

pub loop-at-preserved : goal.loop-at-preserved
loop-at-preserved g c = on_then g.K.Records.shows c.args.round c.loop-at.round c.close.new.live c.loop-at.invariant c.close.ensures.lives

pub returns : goal.returns
returns g c = c.loop-at.invariant
