use Rattle.as2_live.proofs.Going.{on_then, passes_on}
use Rattle.as2_loop.proofs.GoingOn.{settles_round}
use Rattle.as2_loop.proofs.shell.Shell.settle.Goals as goal

pub returns-in-Ok : goal.returns-in-Ok
returns-in-Ok g c =
    settles_round g.K.Records.shows g.K.Round.Records.shows c.args.live c.in-Ok.round c.commit.result c.in-Ok.ensures.begun c.commit.ensures

pub returns-in-Err : goal.returns-in-Err
returns-in-Err g c =
    on_then g.K.Records.shows c.args.live c.in-Err.live c.work-in-Err.result
    (passes_on g.K.Records.shows g.K.Records.shows c.args.live c.in-Err.live c.in-Err.ensures.back) c.work-in-Err.ensures
