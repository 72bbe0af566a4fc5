use Rattle.as2_live.proofs.Going.{on_none, on_then}
use Rattle.as2_loop.proofs.shell.Shell.read_at.Goals as goal

pub returns-in_default : goal.returns-in_default
returns-in_default g c = record { lives = on_none g.K.Records.shows c.args.live.now }

pub returns-in_default-2 : goal.returns-in_default-2
returns-in_default-2 g c = record { lives = on_none g.K.Records.shows c.args.live.now }

pub returns-then-ne : goal.returns-then-ne
returns-then-ne g c = record { lives = on_none g.K.Records.shows c.args.live.now }

pub returns-then-eq : goal.returns-then-eq
returns-then-eq g c = record {
  lives = on_then g.K.Records.shows c.args.live.now c.read-went.new.live c.close.new.live c.read-went.ensures.lives
      c.close.ensures.lives;
}
