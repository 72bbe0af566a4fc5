use Rattle.as2_live.proofs.Going.{on_none, on_then}
use Rattle.as2_sender.proofs.sender.Sender.serve_all.Goals as goal

pub loop-init : goal.loop-init
loop-init g c = on_none g.K.Records.shows c.args.live.now

pub loop-preserved : goal.loop-preserved
loop-preserved g c = on_then g.K.Records.shows c.args.live.now c.loop.live c.serve.new.live c.loop.invariant c.serve.ensures.lives
