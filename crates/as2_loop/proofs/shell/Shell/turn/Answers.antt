use Rattle.as2_live.proofs.Going.{on_across, on_then}
use Rattle.as2_loop.proofs.shell.Shell.turn.Goals as goal

pub returns-in-Ok : goal.returns-in-Ok
returns-in-Ok g c =
    on_then g.K.Records.shows c.args.live c.in-Ok.settled c.go_on_all.new.live
    (on_then g.K.Records.shows c.args.live c.take_in.new.live c.in-Ok.settled c.take_in.ensures.lives c.in-Ok.ensures) c.go_on_all.ensures.lives

pub returns : goal.returns
returns g c =
    on_across g.K.Records.shows g.K.Records.shows g.K.Round.Records.shows c.args.live c.take_in.new.live c.in-Err.round c.take_in.ensures.lives
    c.in-Err.ensures
