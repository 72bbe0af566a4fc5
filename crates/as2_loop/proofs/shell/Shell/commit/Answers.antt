use Rattle.as2_loop.proofs.GoingOn.{commits_round, loses_round}
use Rattle.as2_loop.proofs.shell.Shell.commit.Goals as goal

pub returns-in-Ok : goal.returns-in-Ok
returns-in-Ok g c =
    commits_round g.K.Records.shows g.K.Round.Records.shows c.args.round c.work-round.result c.in-Ok.live c.work-round.ensures c.in-Ok.ensures.committed

pub returns-in-Err : goal.returns-in-Err
returns-in-Err g c =
    loses_round g.K.Round.Records.shows c.args.round c.work-round.result c.in-Err.round c.lose.result c.work-round.ensures c.in-Err.ensures.lost
    c.lose.ensures
