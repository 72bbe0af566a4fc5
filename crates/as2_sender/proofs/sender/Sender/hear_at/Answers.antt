use Rattle.as2_live.proofs.Going.{on_none, on_then}
use Rattle.as2_sender.proofs.sender.Sender.hear_at.Goals as goal

pub loop-init : goal.loop-init
loop-init g c = on_none g.K.Records.shows c.args.live.now

pub loop-preserved : goal.loop-preserved
loop-preserved g c = on_then g.K.Records.shows c.args.live.now c.loop.live c.step.new.live c.loop.invariant c.step.ensures.lives

pub returns-then-not-step : goal.returns-then-not-step
returns-then-not-step g c = record { lives = on_then g.K.Records.shows c.args.live.now c.loop.live c.step.new.live c.loop.invariant c.step.ensures.lives }

pub returns : goal.returns
returns g c = record { lives = c.loop.invariant }
