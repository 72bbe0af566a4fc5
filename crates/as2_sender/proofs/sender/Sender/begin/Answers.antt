use Rattle.as2_live.proofs.Going.{on_none, on_then}
use Rattle.as2_sender.proofs.sender.Sender.begin.Goals as goal

pub returns-in_default : goal.returns-in_default
returns-in_default g c = record { lives = on_none g.K.Records.shows c.args.live.now }

pub returns-in-Begun : goal.returns-in-Begun
returns-in-Begun g c = record {
  lives = on_then g.K.Records.shows c.args.live.now c.begin_try.new.self c.seat.new.live
      (_, c.in-Begun.ensures.begins.1) c.seat.ensures.lives;
}

pub returns-then-matches : goal.returns-then-matches
returns-then-matches g c = record { lives = on_none g.K.Records.shows c.args.live.now }
