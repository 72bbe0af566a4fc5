use Rattle.std.proofs.Common.{◌≡◌, true, Some, subst}
use Rattle.as2_exchange.specs.declared.event.Event.TheVariants as event
use Rattle.as2_station.proofs.ByHistory.{takes_event}
use Rattle.as2_station.specs.Steps.{Does, always}
use Rattle.as2_exchange.specs.Documents.{resent_document}
use Rattle.as2_exchange.specs.Step.{on_document}
use Rattle.as2_station.specs.Said.{said_to_resend}
use Rattle.as2_station.proofs.station.Station.resend.Goals as goal

pub returns : goal.returns
returns g c = record {
  taken =
      let A = c.args.agreements.now in
      let n = c.args.number in
      let m = c.args.moment in
      let new = g.R.Records.shows c.resend.new.records in
      takes_event A (event.Resend n m) said_to_resend _ new c.resend.result
      (subst (λ (h : g.row.R.Denot). Does (λ s. Some (on_document s n (resent_document A m))) always (true ≡ true) said_to_resend
      (g.R.Records.shows h) new c.resend.result) c.self.view_is c.resend.ensures.taken)
      (g.met.R.Records.rests_last c.resend.new.records)
      (λ head body moment is. absurd (let other = is in cc));
}
