use Rattle.std.proofs.Common.{sym, subst}
use Rattle.as2_bounded.specs.declared.bounded.Bounded.{Bounded}
use Rattle.as2_live.specs.declared.live.Live.{Live}
use Rattle.as2_loop.specs.Running.{RunsOn}
use Rattle.as2_loop.proofs.GoingOn.{goes_lost, goes_none, goes_once}
use Rattle.as2_loop.proofs.shell.Shell.run.Goals as goal
use Rattle.as2_loop.proofs.shell.Shell.run.Goals.{else-loop-test, then-loop-test+in_ok-wait+in_ok-turned+in-Ok+in_ok-current+in_ok-look+then-self}

pub loop-init : goal.loop-init
loop-init g c = goes_none g.R.Records.shows c.args.basis.now c.args.live

pub returns-in-Err : goal.returns-in-Err
returns-in-Err g c =
    goes_lost g.R.Records.shows g.R.Round.Records.shows c.args.basis.now c.args.live c.loop.current c.in-Err.round c.in_ok-turned.field-0 c.loop.invariant
    c.in_ok-turned.ensures c.in-Err.is

pub loop-preserved : goal.loop-preserved
loop-preserved g c =
    goes_once g.R.Records.shows g.R.Round.Records.shows c.args.basis.now c.args.live c.loop.current c.in-Ok.turned c.in_ok-current.current c.look.new.live
    c.in_ok-turned.field-0 c.loop.invariant c.in_ok-turned.ensures c.in-Ok.is c.in_ok-current.ensures c.look.ensures.lives

pub returns : goal.returns
returns g c = elim c.loop-test.branch [
  | else-loop-test w ↦ subst (λ (l : Live (Bounded g.row.R.Denot)). RunsOn g.R.Records.shows c.args.basis.now c.args.live l) (sym w.current-is)
      c.loop.invariant
  | then-loop-test+in_ok-wait+in_ok-turned+in-Ok+in_ok-current+in_ok-look+then-self w ↦
      subst (λ (l : Live (Bounded g.row.R.Denot)). RunsOn g.R.Records.shows c.args.basis.now c.args.live l) (sym w.current-is)
      (goes_once g.R.Records.shows g.R.Round.Records.shows c.args.basis.now c.args.live c.loop.current w.in-Ok.turned w.in_ok-current.current
      w.look.new.live w.in_ok-turned.field-0 c.loop.invariant w.in_ok-turned.ensures w.in-Ok.is w.in_ok-current.ensures w.look.ensures.lives)
]
