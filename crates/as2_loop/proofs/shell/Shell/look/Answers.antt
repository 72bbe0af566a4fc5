use Rattle.as2_live.proofs.Going.{on_then}
use Rattle.as2_loop.proofs.shell.Shell.look.Goals as goal

pub returns-then-now-next_look : goal.returns-then-now-next_look
returns-then-now-next_look g c = record { lives = c.give_room.ensures.lives }

pub returns-in_err-look_at_all : goal.returns-in_err-look_at_all
returns-in_err-look_at_all g c = record {
  lives = on_then g.K.Records.shows c.args.live.now c.give_room.new.live c.look_at_all.new.live
      c.give_room.ensures.lives c.look_at_all.ensures.lives;
}

pub returns : goal.returns
returns g c = record {
  lives = on_then g.K.Records.shows c.args.live.now c.look_at_all.new.live c.tick-said.new.self
      (on_then g.K.Records.shows c.args.live.now c.give_room.new.live c.look_at_all.new.live c.give_room.ensures.lives c.look_at_all.ensures.lives)
      (_, c.tick-said.ensures.ticks);
}
