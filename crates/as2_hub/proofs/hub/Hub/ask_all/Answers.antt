use Rattle.std.proofs.Common.{◌≡◌, ◌∙◌, ◌∷◌, ◌+◌, ℕ, suc, get_or, drop, ap, arith}
use Rattle.std.proofs.Math.Seq.{drop-cons}
use Rattle.std.proofs.lemmas.List.{drop_all}
use Rattle.as2_hub.specs.Rounds.{scene}
use Rattle.as2_hub.proofs.Asking.{going_all, going_first, going_none_left, going_on, no_more_than_one}
use Rattle.as2_hub.proofs.hub.Hub.ask_all.Goals as goal

pub loop-at-init : goal.loop-at-init
loop-at-init g c = going_first g.D.Desk.conduct (scene c.args.desk.now c.args.self.now) c.args.ready.now

pub loop-at-preserved : goal.loop-at-preserved
loop-at-preserved g c =
    let ready = c.args.ready.now in
    let i = c.loop-at.at-index in
    let next : suc i ≡ i + 1 = omega arith in
    going_on g.D.Desk.conduct (scene c.args.desk.now c.args.self.now) (scene c.loop-at.desk c.loop-at.self) (scene c.ask.new.desk c.ask.new.self)
    ready (drop i ready) _ c.loop-at.left _ (get_or ready i 0) c.ask.result (omega arith)
    (omega (arith, c.from-left.ensures, no_more_than_one c.ask.result))
    (drop-cons ready i 0 c.loop-at-test.true ∙ ap (λ (k : ℕ). get_or ready i 0 ∷ drop k ready) next)
    c.ask.ensures.asks c.ask.ensures.unread c.ask.ensures.bounds c.loop-at.invariant

pub returns-then-left-eq0-clause-asks : goal.returns-then-left-eq0-clause-asks
returns-then-left-eq0-clause-asks g c =
    going_none_left g.D.Desk.conduct (scene c.args.desk.now c.args.self.now) (scene c.loop-at.desk c.loop-at.self) c.args.ready.now
    (drop c.loop-at.at-index c.args.ready.now) c.loop-at.left (omega arith) c.loop-at.invariant

pub returns-clause-asks : goal.returns-clause-asks
returns-clause-asks g c =
    going_all g.D.Desk.conduct (scene c.args.desk.now c.args.self.now) (scene c.loop-at.desk c.loop-at.self) c.args.ready.now
    (drop c.loop-at.at-index c.args.ready.now) c.loop-at.left (drop_all c.loop-at.at-index c.args.ready.now (omega arith)) c.loop-at.invariant
