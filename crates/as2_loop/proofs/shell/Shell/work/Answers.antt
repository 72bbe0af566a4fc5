use Rattle.as2_live.proofs.Going.{on_then}
use Rattle.as2_loop.proofs.shell.Shell.work.Goals as goal

pub returns : goal.returns
returns g c = on_then g.K.Records.shows c.args.live c.answer.new.live c.send.new.live c.answer.ensures.lives c.send.ensures.lives
