use Rattle.std.proofs.Common.{◌≡◌, ◌∙◌, ◌++◌, ◌∷◌, [], ◌+◌, ℕ, List, Option, take, refl, sym, ap, subst, arith}
use Rattle.std.specs.Prelude.{slice_get}
use Rattle.std.proofs.lemmas.List.{take_more}
use Rattle.std.proofs.lemmas.Option.{slice_get_past}
use Rattle.as2_hub.specs.Inputs.{StopsBefore}
use Rattle.as2_hub.specs.Promises.{PlaysInputs}
use Rattle.as2_hub.specs.Rounds.{Scene, scene}
use Rattle.as2_hub.specs.declared.hub.Hub.{Hub}
use Rattle.as2_hub.specs.declared.input.Input.{Input}
use Rattle.as2_hub.proofs.Playing.{kept_promises, plays_push}
use Rattle.as2_hub.proofs.hub.Hub.play.Goals as goal

pub loop-input-preserved : goal.loop-input-preserved
loop-input-preserved g c =
    let inputs = c.args.inputs.now in
    let i = c.loop-input.input-index in
    let x = c.input-item.result in
    let more = c.if-not-take.ensures.takes refl in
    let so_far = c.loop-input.invariant.1 in
    let one : take (i + 1) inputs ≡ take i inputs ++ x ∷ [] = take_more inputs i x c.loop-input-test.true
    ∙ ap (λ (y : Input). take i inputs ++ y ∷ []) (sym c.input-item.is) in (
      ap (λ (n : ℕ). n + 1) c.loop-input.invariant.0,
      (
        more.0 ++ so_far.0,
        subst (λ (l : List Input). PlaysInputs g.D.Desk.conduct l (scene c.args.desk.now c.args.self.now)
            (more.0 ++ so_far.0) (scene c.take.new.desk c.take.new.self)) (sym one)
            (plays_push g.D.Desk.conduct (take i inputs) x (scene c.args.desk.now c.args.self.now) (scene c.loop-input.desk c.loop-input.self)
            (scene c.take.new.desk c.take.new.self)
            so_far.0 more.0 so_far.1 more.1),
      ),
    )

pub returns-then-not-take-clause-promised : goal.returns-then-not-take-clause-promised
returns-then-not-take-clause-promised g c =
    let inputs = c.args.inputs.now in
    let so_far = c.loop-input.invariant.1 in
    let same = c.if-not-take.ensures.none refl in
    let there : scene c.loop-input.desk c.loop-input.self ≡ scene c.take.new.desk c.take.new.self =
    ap (λ z. scene z c.loop-input.self) (sym same.0) ∙ ap (λ (z : Hub). scene c.take.new.desk z) (sym same.1) in
    kept_promises g.D.Desk.conduct (take c.loop-input.taken inputs) (scene c.args.desk.now c.args.self.now)
    (scene c.take.new.desk c.take.new.self) so_far.0
    (subst (λ (n : ℕ). PlaysInputs g.D.Desk.conduct (take n inputs) (scene c.args.desk.now c.args.self.now) so_far.0
    (scene c.take.new.desk c.take.new.self)) (sym c.loop-input.invariant.0)
    (subst (λ z. PlaysInputs g.D.Desk.conduct (take c.loop-input.input-index inputs) (scene c.args.desk.now c.args.self.now) so_far.0 z) there so_far.1))

pub returns-clause-stops : goal.returns-clause-stops
returns-clause-stops g c =
    subst (λ (o : Option Input). StopsBefore c.loop-input.self o)
    (sym (slice_get_past c.args.inputs.now c.loop-input.taken (omega (arith, c.loop-input.invariant.0)))) tt

pub returns-clause-promised : goal.returns-clause-promised
returns-clause-promised g c =
    let inputs = c.args.inputs.now in
    let so_far = c.loop-input.invariant.1 in
    kept_promises g.D.Desk.conduct (take c.loop-input.taken inputs) (scene c.args.desk.now c.args.self.now)
    (scene c.loop-input.desk c.loop-input.self) so_far.0
    (subst (λ (n : ℕ). PlaysInputs g.D.Desk.conduct (take n inputs) (scene c.args.desk.now c.args.self.now) so_far.0
    (scene c.loop-input.desk c.loop-input.self)) (sym c.loop-input.invariant.0) so_far.1)
