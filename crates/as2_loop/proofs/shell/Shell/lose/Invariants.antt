use Rattle.as2_live.specs.Living.{LivesOn}
use Rattle.as2_loop.proofs.shell.Shell.lose.Given as goal

abbrev pub invariant-loop-at : goal.invariant-loop-at
invariant-loop-at g l = LivesOn g.K.Records.shows l.fn.round l.round
