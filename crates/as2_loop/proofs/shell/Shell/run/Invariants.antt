use Rattle.as2_loop.specs.Running.{RunsOn}
use Rattle.as2_loop.proofs.shell.Shell.run.Given as goal

abbrev pub invariant-loop : goal.invariant-loop
invariant-loop g l = RunsOn g.R.Records.shows l.fn.basis l.fn.live l.current
