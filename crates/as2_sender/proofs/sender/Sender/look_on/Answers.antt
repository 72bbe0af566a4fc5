use Rattle.as2_live.proofs.Going.{on_none, on_then}
use Rattle.as2_sender.proofs.sender.Sender.look_on.Goals as goal

pub loop-init : goal.loop-init
loop-init g c = on_none g.K.Records.shows c.args.live.now

pub loop-preserved : goal.loop-preserved
loop-preserved g c = on_then g.K.Records.shows c.args.live.now c.next_due.new.live c.look_at.new.live
    (on_then g.K.Records.shows c.args.live.now c.loop.live c.next_due.new.live c.loop.invariant c.next_due.ensures.lives)
    c.look_at.ensures.lives

pub returns-in_default : goal.returns-in_default
returns-in_default g c = record { lives = on_then g.K.Records.shows c.args.live.now c.loop.live c.next_due.new.live c.loop.invariant c.next_due.ensures.lives }
