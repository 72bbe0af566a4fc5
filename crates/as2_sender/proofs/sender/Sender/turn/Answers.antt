use Rattle.as2_live.proofs.Going.{on_then}
use Rattle.as2_sender.proofs.sender.Sender.turn.Goals as goal

pub returns : goal.returns
returns g c = record {
  lives = on_then g.K.Records.shows c.args.live.now c.look_on.new.live c.serve_all.new.live
      (on_then g.K.Records.shows c.args.live.now c.end_all.new.live c.look_on.new.live c.end_all.ensures.lives c.look_on.ensures.lives)
      c.serve_all.ensures.lives;
}
