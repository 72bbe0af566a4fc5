use Rattle.as2_live.proofs.Going.{on_none}
use Rattle.as2_sender.proofs.sender.Sender.step.Goals as goal

pub returns-in-Nothing : goal.returns-in-Nothing
returns-in-Nothing g c = record { lives = on_none g.K.Records.shows c.args.live.now }

-- each of these says what happened at the link
pub returns-in-Wrote : goal.returns-in-Wrote
returns-in-Wrote g c = record { lives = (_, c.link_sent.ensures.lives) }

pub returns-in-Read : goal.returns-in-Read
returns-in-Read g c = record { lives = (_, c.link_heard.ensures.lives) }

pub returns-in-Ended : goal.returns-in-Ended
returns-in-Ended g c = record { lives = (_, c.link_cut.ensures.lives) }

-- it is over, and that is noted
pub returns-in-Over : goal.returns-in-Over
returns-in-Over g c = record { lives = on_none g.K.Records.shows c.args.live.now }
