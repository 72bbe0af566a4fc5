use Rattle.std.proofs.Common.{sym, subst}
use Rattle.as2_live.proofs.Going.{on_none, on_then}
use Rattle.as2_live.specs.Living.{LivesOn}
use Rattle.as2_live.specs.declared.live.Live.{Live}
use Rattle.as2_loop.proofs.shell.Shell.accept_all.Goals as goal
use Rattle.as2_loop.proofs.shell.Shell.accept_all.Goals.{in-Some-accept+in_ok-seat, in_default-accept}

pub loop-init : goal.loop-init
loop-init g c = on_none g.K.Records.shows c.args.live.now

pub returns-then-not-is_open : goal.returns-then-not-is_open
returns-then-not-is_open g c = record { lives = c.loop.invariant }

pub returns-in_default : goal.returns-in_default
returns-in_default g c = record { lives = c.loop.invariant }

pub returns-in_err-seat : goal.returns-in_err-seat
returns-in_err-seat g c =
    record { lives = on_then g.K.Records.shows c.args.live.now c.loop.live c.seat.new.live c.loop.invariant c.seat.ensures.lives }

pub loop-preserved : goal.loop-preserved
loop-preserved g c = elim c.match-accept.branch [
  | in-Some-accept+in_ok-seat w ↦ subst (λ (l : Live g.row.K.Denot). LivesOn g.K.Records.shows c.args.live.now l) (sym w.live-is)
      (on_then g.K.Records.shows c.args.live.now c.loop.live w.seat.new.live c.loop.invariant w.seat.ensures.lives)
  | in_default-accept w ↦ subst (λ (l : Live g.row.K.Denot). LivesOn g.K.Records.shows c.args.live.now l) (sym w.live-is) c.loop.invariant
]

pub returns : goal.returns
returns g c = record { lives = c.loop.invariant }
