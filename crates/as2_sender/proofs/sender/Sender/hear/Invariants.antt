use Rattle.as2_live.specs.Living.{LivesOn}
use Rattle.as2_sender.proofs.sender.Sender.hear.Given as goal

abbrev pub invariant-loop-at : goal.invariant-loop-at
invariant-loop-at g l = LivesOn g.K.Records.shows l.fn.live l.live
