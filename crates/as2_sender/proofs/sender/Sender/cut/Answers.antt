use Rattle.as2_live.proofs.Going.{on_then}
use Rattle.as2_sender.proofs.sender.Sender.cut.Goals as goal

pub returns-then-is_due : goal.returns-then-is_due
returns-then-is_due g c = record {
  lives = on_then g.K.Records.shows c.args.live.now c.is_due.new.live c.finish.new.live c.is_due.ensures.lives c.finish.ensures.lives;
}
