use Rattle.std.proofs.Common.{◌≡◌, ◌∙◌, refl, rules, sym, subst}
use Rattle.as2_exchange.specs.Posts.{PostReading, post_reading}
use Rattle.as2_exchange.specs.State.{AllDigests, Digests}
use Rattle.as2_exchange.specs.Step.{post}
use Rattle.as2_exchange.specs.declared.answer.Answer.TheVariants.{Http}
use Rattle.as2_station.specs.Steps.{ClashesWhole, TakesPost, always}
use Rattle.as2_exchange.specs.declared.event.Event.TheVariants.{Post}
use Rattle.as2_station.proofs.ByHistory.{takes_event}
use Rattle.as2_station.proofs.Doing.{by_state}
use Rattle.as2_station.proofs.station.Station.post.Goals as goal

pub returns-in-Ok-clause-taken : goal.returns-in-Ok-clause-taken
returns-in-Ok-clause-taken g c =
    takes_event c.args.agreements.now (Post c.args.head.now c.args.body c.args.moment) Http _ _ c.take.result
    (by_state (λ (known : Digests) s. post c.args.agreements.now s c.args.moment
    (post_reading c.args.agreements.now known c.args.head.now c.args.body)) always _ Http _ _ c.take.result
    (subst (λ (r : PostReading). TakesPost g.R.Records.shows c.args.agreements.now c.args.moment r always c.args.self.now c.take.new.self
    c.take.result) (sym (c.in-Ok.ensures.opened AllDigests c.args.body)) c.take.ensures.taken))
    (g.met.R.Records.rests_last c.take.new.self)
    (λ head body moment is.
    subst (λ (r : PostReading). ClashesWhole Http r (g.R.Records.shows c.args.self.now) (g.R.Records.shows c.take.new.self) c.take.result)
    (sym (c.in-Ok.ensures.opened AllDigests c.args.body)
    ∙ (let h : c.args.head.now ≡ head = cc in let b : c.args.body ≡ body = cc in rw (h, b) refl)) c.take.ensures.whole)

pub returns-in-Err-clause-taken : goal.returns-in-Err-clause-taken
returns-in-Err-clause-taken g c =
    takes_event c.args.agreements.now (Post c.args.head.now c.args.body c.args.moment) Http _ _ _ (search rules)
    (g.met.R.Records.rests_last c.args.self.now) (search rules)
