use Rattle.as2_live.proofs.Going.{on_none, on_then}
use Rattle.as2_loop.proofs.shell.Shell.look_at_all.Goals as goal

pub loop-at-init : goal.loop-at-init
loop-at-init g c = on_none g.K.Records.shows c.args.live.now

pub loop-at-preserved : goal.loop-at-preserved
loop-at-preserved g c = on_then g.K.Records.shows c.args.live.now c.loop-at.live c.look_at.new.live c.loop-at.invariant c.look_at.ensures.lives

pub returns-in_err-look_at : goal.returns-in_err-look_at
returns-in_err-look_at g c = record {
  lives = on_then g.K.Records.shows c.args.live.now c.loop-at.live c.look_at.new.live c.loop-at.invariant
      c.look_at.ensures.lives;
}

pub returns : goal.returns
returns g c = record { lives = c.loop-at.invariant }
