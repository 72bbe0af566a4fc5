use Rattle.as2_live.proofs.Going.{on_none, on_then}
use Rattle.as2_loop.proofs.peers.read.Goals as goal

pub loop-init : goal.loop-init
loop-init g c = on_none g.K.Records.shows c.args.live.now

pub loop-preserved : goal.loop-preserved
loop-preserved g c = on_then g.K.Records.shows c.args.live.now c.loop.live c.read_once.new.live c.loop.invariant c.read_once.ensures.lives

pub returns-in-Some : goal.returns-in-Some
returns-in-Some g c = record { lives = on_then g.K.Records.shows c.args.live.now c.loop.live c.read_once.new.live c.loop.invariant c.read_once.ensures.lives }

pub returns : goal.returns
returns g c = record { lives = c.loop.invariant }
