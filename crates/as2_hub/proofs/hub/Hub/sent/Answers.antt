use Rattle.std.proofs.Common.{◌≡◌, ◌<◌, ◌++◌, ◌∷◌, List, ℕ, length, take, Option, Some, refl, sym, subst, ap, ◌∙◌, arith}
use Rattle.std.specs.Prelude.{slice_get, slice_set}
use Rattle.std.proofs.lemmas.List.{take-append-drop}
use Rattle.as2_hub.specs.Bounded.{unanswered_in}
use Rattle.as2_hub.specs.Happenings.{Goes}
use Rattle.as2_hub.specs.Places.{StandAfter, output_at}
use Rattle.as2_hub.specs.Talks.{unanswered_of}
use Rattle.as2_hub.specs.declared.talk.Talk.{Talk}
use Rattle.as2_hub.proofs.Standing.{gone, there, within_of}
use Rattle.as2_hub.proofs.Within.{bounded_less, less_set}
use Rattle.as2_hub.proofs.hub.Hub.sent.Goals as goal

pub returns-clause-stands : goal.returns-clause-stands
returns-clause-stands c = λ some h it.
    let talks = c.args.self.now.talks.items in
    let at = c.args.at in
    let t = c.in-Some.talk in
    let n = c.min-count.result in
    let within : at < length talks = within_of talks at (λ none.
    let nothing : length (output_at (slice_get talks at)) ≡ 0 = ap (λ (o : Option (Option Talk)). length (output_at o)) none in
    absurd (omega (arith, ap length c.output.ensures, nothing, some))) in
    let here = there talks at c.index_mut.result.now t within c.index_mut.ensures.value c.in-Some.is in
    subst (λ (x : List ℕ). StandAfter (slice_set talks at (Some c.sent.new.self)) (Goes at (take n x) ∷ h)) (sym (ap output_at here))
    (gone talks at t c.sent.new.self (take n t.output.items) h within here c.sent.ensures.others
    (sym (take-append-drop n t.output.items) ∙ ap (λ (x : List ℕ). take n t.output.items ++ x) (sym c.sent.ensures.went)) it)

pub returns-clause-sets : goal.returns-clause-sets
returns-clause-sets c = λ some.
    let talks = c.args.self.now.talks.items in
    let at = c.args.at in
    let t = c.in-Some.talk in
    let within : at < length talks = within_of talks at (λ none.
    let nothing : length (output_at (slice_get talks at)) ≡ 0 = ap (λ (o : Option (Option Talk)). length (output_at o)) none in
    absurd (omega (arith, ap length c.output.ensures, nothing))) in (
      t,
      c.sent.new.self,
      there talks at c.index_mut.result.now t within c.index_mut.ensures.value c.in-Some.is,
      refl,
      c.sent.ensures.others,
      c.sent.ensures.went,
    )

pub returns-clause-bounded : goal.returns-clause-bounded
returns-clause-bounded c =
    let talks = c.args.self.now.talks.items in
    let at = c.args.at in
    let t = c.in-Some.talk in
    let within : at < length talks = within_of talks at (λ none.
    let nothing : length (output_at (slice_get talks at)) ≡ 0 = ap (λ (o : Option (Option Talk)). length (output_at o)) none in
    absurd (omega (arith, ap length c.output.ensures, nothing))) in
    let here = there talks at c.index_mut.result.now t within c.index_mut.ensures.value c.in-Some.is in
    let was : unanswered_in (slice_get talks at) ≡ unanswered_of t = ap unanswered_in here in
    let unread : unanswered_of c.sent.new.self ≡ unanswered_of t = ap unanswered_of c.sent.ensures.others in
    bounded_less c.args.self.now _ refl (less_set talks at (Some c.sent.new.self) within (omega (arith, was, unread)))
