use Rattle.as2_live.proofs.Going.{on_none}
use Rattle.as2_loop.proofs.shell.Shell.look_at.Goals as goal

pub returns-in_default : goal.returns-in_default
returns-in_default g c = record { lives = on_none g.K.Records.shows c.args.live.now }

pub returns-in_default-2 : goal.returns-in_default-2
returns-in_default-2 g c = record { lives = on_none g.K.Records.shows c.args.live.now }

pub returns-in_err-add : goal.returns-in_err-add
returns-in_err-add g c = record { lives = on_none g.K.Records.shows c.args.live.now }

pub returns-in_ok-add : goal.returns-in_ok-add
returns-in_ok-add g c = record { lives = on_none g.K.Records.shows c.args.live.now }

pub returns-else-may_read : goal.returns-else-may_read
returns-else-may_read g c = record { lives = on_none g.K.Records.shows c.args.live.now }
