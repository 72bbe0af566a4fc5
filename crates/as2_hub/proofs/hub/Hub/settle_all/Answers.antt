use Rattle.std.proofs.Common.{◌≡◌, ℕ, length, subst, arith}
use Rattle.as2_hub.specs.Places.{places}
use Rattle.as2_hub.proofs.Standing.{Halfway, halfway_all, halfway_more, halfway_none}
use Rattle.as2_hub.proofs.Waiting.{ended_all, ended_more, ended_none}
use Rattle.as2_hub.proofs.Within.{lessened_same, lessened_then}
use Rattle.as2_hub.proofs.hub.Hub.settle_all.Goals as goal

pub loop-at-init : goal.loop-at-init
loop-at-init c = (
  λ kept h round it. halfway_none (places c.args.self.now) h round it,
  ended_none c.args.is_kept (places c.args.self.now),
  lessened_same c.args.self.now,
)

pub loop-at-preserved : goal.loop-at-preserved
loop-at-preserved c = (
  λ kept h round it. halfway_more c.loop-at.at (places c.loop-at.self) (places c.settle.new.self) h round (c.settle.ensures.kept kept h round)
      c.settle.ensures.others
      (c.loop-at.invariant.0 kept h round it),
  ended_more c.loop-at.at c.args.is_kept (places c.args.self.now) (places c.loop-at.self) (places c.settle.new.self) c.settle.ensures.waits
      c.settle.ensures.others c.loop-at.invariant.1,
  lessened_then c.args.self.now c.loop-at.self c.settle.new.self c.loop-at.invariant.2 c.settle.ensures.unread c.settle.ensures.bounds,
)

pub returns-clause-kept : goal.returns-clause-kept
returns-clause-kept c = λ kept h round it.
    let all : c.loop-at.at ≡ length (places c.loop-at.self) = omega (arith, c.args.self.now.talks.ok.0, c.loop-at.invariant.2.less.same_places) in
    halfway_all (places c.loop-at.self) h round
    (subst (λ (k : ℕ). Halfway k (places c.loop-at.self) h round) all (c.loop-at.invariant.0 kept h round it))

pub returns-clause-waits : goal.returns-clause-waits
returns-clause-waits c =
    ended_all c.loop-at.at c.args.is_kept (places c.args.self.now) (places c.loop-at.self)
    (omega (arith, c.args.self.now.talks.ok.0)) c.loop-at.invariant.1
