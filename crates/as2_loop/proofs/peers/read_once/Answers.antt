use Rattle.as2_live.proofs.Going.{on_none}
use Rattle.as2_loop.proofs.peers.read_once.Goals as goal

-- nothing happened
pub returns-then-not-peer : goal.returns-then-not-peer
returns-then-not-peer g c = record { lives = on_none g.K.Records.shows c.args.live.now }

pub returns-in-Err-3 : goal.returns-in-Err-3
returns-in-Err-3 g c = record { lives = on_none g.K.Records.shows c.args.live.now }

pub returns-in-Ok-eq0 : goal.returns-in-Ok-eq0
returns-in-Ok-eq0 g c = record { lives = on_none g.K.Records.shows c.args.live.now }

pub returns-in-Err : goal.returns-in-Err
returns-in-Err g c = record { lives = on_none g.K.Records.shows c.args.live.now }

pub returns-in-Err-2 : goal.returns-in-Err-2
returns-in-Err-2 g c = record { lives = on_none g.K.Records.shows c.args.live.now }

pub returns-then-room-eq0 : goal.returns-then-room-eq0
returns-then-room-eq0 g c = record { lives = on_none g.K.Records.shows c.args.live.now }
