use Rattle.as2_live.specs.Living.{LivesOn}
use Rattle.as2_sender.proofs.sender.Sender.serve_all.Given as goal

abbrev pub invariant-loop : goal.invariant-loop
invariant-loop g l = LivesOn g.K.Records.shows l.fn.live l.live
