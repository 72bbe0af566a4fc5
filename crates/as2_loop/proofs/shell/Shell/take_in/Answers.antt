use Rattle.as2_live.proofs.Going.{on_none, on_then}
use Rattle.as2_loop.proofs.shell.Shell.take_in.Goals as goal

pub returns-in_err-mark_all : goal.returns-in_err-mark_all
returns-in_err-mark_all g c = record { lives = on_none g.K.Records.shows c.args.live.now }

pub returns : goal.returns
returns g c = record {
  lives = on_then g.K.Records.shows c.args.live.now c.read_all.new.live c.hear.new.live
      (on_then g.K.Records.shows c.args.live.now c.accept_all.new.live c.read_all.new.live c.accept_all.ensures.lives c.read_all.ensures.lives)
      c.hear.ensures.lives;
}
