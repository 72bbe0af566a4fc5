use Rattle.std.proofs.Common.{◌≡◌, is_none, true, subst}
use Rattle.as2_exchange.specs.declared.event.Event.TheVariants.{Submit}
use Rattle.as2_station.proofs.ByHistory.{takes_event}
use Rattle.as2_station.specs.Steps.{Does, always}
use Rattle.as2_exchange.specs.Documents.{submit}
use Rattle.as2_station.specs.Heads.{submit_refusal}
use Rattle.as2_station.specs.Said.{said_to_submit}
use Rattle.as2_station.proofs.station.Station.submit.Goals as goal

pub returns-clause-taken : goal.returns-clause-taken
returns-clause-taken g c =
    let A = c.args.agreements.now in
    let d = c.args.document in
    let new = g.R.Records.shows c.submit.new.records in
    takes_event A (Submit d.organization d.partner d.content c.args.moment) said_to_submit _ new c.submit.result
    (subst (λ (h : g.row.R.Denot). Does (λ s. submit A s d.organization d.partner d.content c.args.moment) always
    (is_none (submit_refusal A d.organization d.partner d.content) ≡ true) said_to_submit
    (g.R.Records.shows h) new c.submit.result) c.self.view_is c.submit.ensures.taken)
    (g.met.R.Records.rests_last c.submit.new.records)
    (λ head body moment is. absurd (let other = is in cc))
