use Rattle.std.proofs.Common.{◌≡◌, true, Some, sym, subst}
use Rattle.as2_exchange.specs.declared.event.Event.TheVariants as event
use Rattle.as2_station.proofs.ByHistory.{takes_event}
use Rattle.as2_station.proofs.Doing.{by_state}
use Rattle.as2_station.specs.Steps.{Does, TakesEvent, always}
use Rattle.as2_exchange.specs.Documents.{closed_document}
use Rattle.as2_exchange.specs.State.{AllDigests, Digests}
use Rattle.as2_exchange.specs.OwedReceipts.{closed_receipt}
use Rattle.as2_exchange.specs.Step.{on_document, on_received}
use Rattle.as2_exchange.specs.declared.next.Next.{Next}
use Rattle.as2_station.specs.Said.{outcome_event, said_to_outcome}
use Rattle.as2_station.proofs.station.Station.close.Goals as goal

pub returns-in-Receipt : goal.returns-in-Receipt
returns-in-Receipt g c = record {
  taken =
      let A = c.args.agreements.now in
      let n = c.in-Receipt.number in
      let m = c.args.moment in
      let new = g.R.Records.shows c.close_receipt.new.records in
      subst (λ (w : Next). TakesEvent A (outcome_event w c.args.answer m) said_to_outcome
      (g.R.Records.shows c.args.self.now) new c.close_receipt.result) (sym c.in-Receipt.is)
      (takes_event A (event.OutcomeReceipt n c.args.answer m) said_to_outcome _ new c.close_receipt.result
      (subst (λ (h : g.row.R.Denot). Does (λ s. Some (on_received s n (closed_receipt A c.args.answer m))) always (true ≡ true) said_to_outcome
      (g.R.Records.shows h) new c.close_receipt.result) c.self.view_is c.close_receipt.ensures.taken)
      (g.met.R.Records.rests_last c.close_receipt.new.records)
      (λ head body moment is. absurd (let other = is in cc)));
}

pub returns-in-Document : goal.returns-in-Document
returns-in-Document g c = record {
  taken =
      let A = c.args.agreements.now in
      let n = c.in-Document.number in
      let m = c.args.moment in
      let new = g.R.Records.shows c.close.new.records in
      subst (λ (w : Next). TakesEvent A (outcome_event w c.args.answer m) said_to_outcome (g.R.Records.shows c.args.self.now) new c.close.result)
      (sym c.in-Document.is)
      (takes_event A (event.Outcome n c.args.answer m) said_to_outcome _ new c.close.result
      (by_state (λ (known : Digests) s. Some (on_document s n (closed_document A known c.args.answer m))) always
      (true ≡ true) said_to_outcome _ new c.close.result
      (subst (λ (h : g.row.R.Denot). Does (λ s. Some (on_document s n (closed_document A AllDigests c.args.answer m))) always
      (true ≡ true) said_to_outcome (g.R.Records.shows h) new c.close.result) c.self.view_is c.close.ensures.taken))
      (g.met.R.Records.rests_last c.close.new.records)
      (λ head body moment is. absurd (let other = is in cc)));
}
