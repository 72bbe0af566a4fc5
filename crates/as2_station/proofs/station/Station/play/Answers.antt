use Rattle.std.proofs.Common.{◌≡◌, ◌+◌, ◌++◌, [], ◌∷◌, ◌∙◌, length, sym, ap, subst, append_assoc, append-nil, arith}
use Rattle.std.proofs.lemmas.List.{length-append}
use Rattle.as2_station.specs.Traces.{TakesEvents, Plays}
use Rattle.as2_station.proofs.Playing.{taken_more, taken_plays, nothing_left}
use Rattle.as2_station.proofs.station.Station.play.Goals as goal

pub events-preserved : goal.events-preserved
events-preserved g c =
    let was = c.events.invariant in
    let next = c.in-Some.ensures.steps.0 in
    let pushed = c.push_reserved.ensures.items in
    let longer = ap length pushed ∙ length-append c.events.said.items (c.step.result ∷ []) in
    let shorter = ap length next in
    let more = ap (λ l. c.events.yielded ++ l) next ∙ sym (append_assoc c.events.yielded (c.in-Some.event ∷ []) c.next.new.self.rest.items) in
    let taken = taken_more g.R.Records.shows c.args.agreements.now c.events.yielded c.events.said.items c.in-Some.event c.step.result
    c.args.self.now c.events.self c.step.new.self was.4 c.step.ensures.taken c.step.ensures.of_head c.step.ensures.submitted in (
      was.0,
      was.1 ∙ more,
      longer ∙ ap (λ n. n + 1) was.2 ∙ sym (length-append c.events.yielded (c.in-Some.event ∷ [])),
      omega (arith),
      subst (λ rs. TakesEvents g.R.Records.shows c.args.agreements.now
          (c.events.yielded ++ c.in-Some.event ∷ []) rs c.args.self.now c.step.new.self) (sym pushed) taken,
    )

pub returns-clause-each : goal.returns-clause-each
returns-clause-each g c =
    let was = c.events.invariant in
    let rest : c.events.event-iterator.rest.items ≡ [] = nothing_left _ (omega (arith, c.in-None.ensures.steps.0, c.events.event-iterator.rest.ok)) in
    let whole : c.events.yielded ≡ c.args.events.items = sym (was.1 ∙ ap (λ l. c.events.yielded ++ l) rest ∙ append-nil c.events.yielded) in
    subst (λ es. TakesEvents g.R.Records.shows c.args.agreements.now es c.events.said.items c.args.self.now c.events.self) whole was.4

pub returns-clause-played : goal.returns-clause-played
returns-clause-played g c =
    let was = c.events.invariant in
    let rest : c.events.event-iterator.rest.items ≡ [] = nothing_left _ (omega (arith, c.in-None.ensures.steps.0, c.events.event-iterator.rest.ok)) in
    let whole : c.events.yielded ≡ c.args.events.items = sym (was.1 ∙ ap (λ l. c.events.yielded ++ l) rest ∙ append-nil c.events.yielded) in
    subst (λ es. Plays g.R.Records.shows c.args.agreements.now es c.events.said.items c.args.self.now c.events.self) whole
    (taken_plays g.R.Records.shows c.args.agreements.now c.events.yielded c.events.said.items c.args.self.now c.events.self was.4)
