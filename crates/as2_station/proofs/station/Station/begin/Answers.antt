use Rattle.std.proofs.Common.{◌≡◌, true, Some, sym, subst}
use Rattle.as2_exchange.specs.declared.event.Event.TheVariants as event
use Rattle.as2_station.proofs.ByHistory.{takes_event}
use Rattle.as2_station.specs.Steps.{Does, TakesEvent, always}
use Rattle.as2_exchange.specs.Documents.{begun_document}
use Rattle.as2_exchange.specs.OwedReceipts.{begun_receipt}
use Rattle.as2_exchange.specs.Step.{on_document, on_received}
use Rattle.as2_exchange.specs.declared.next.Next.{Next}
use Rattle.as2_station.specs.Said.{begin_event, said_to_begin}
use Rattle.as2_station.proofs.station.Station.begin.Goals as goal

pub returns-in-Receipt : goal.returns-in-Receipt
returns-in-Receipt g c = record {
  taken =
      let A = c.args.agreements.now in
      let n = c.in-Receipt.number in
      let m = c.args.moment in
      let new = g.R.Records.shows c.begin_receipt.new.records in
      subst (λ (w : Next). TakesEvent A (begin_event w m) said_to_begin (g.R.Records.shows c.args.self.now) new c.begin_receipt.result) (sym c.in-Receipt.is)
      (takes_event A (event.BeginReceipt n m) said_to_begin _ new c.begin_receipt.result
      (subst (λ (h : g.row.R.Denot). Does (λ s. Some (on_received s n (begun_receipt A m))) always (true ≡ true) said_to_begin
      (g.R.Records.shows h) new c.begin_receipt.result) c.self.view_is c.begin_receipt.ensures.taken)
      (g.met.R.Records.rests_last c.begin_receipt.new.records)
      (λ head body moment is. absurd (let other = is in cc)));
}

pub returns-in-Document : goal.returns-in-Document
returns-in-Document g c = record {
  taken =
      let A = c.args.agreements.now in
      let n = c.in-Document.number in
      let m = c.args.moment in
      let new = g.R.Records.shows c.begin.new.records in
      subst (λ (w : Next). TakesEvent A (begin_event w m) said_to_begin (g.R.Records.shows c.args.self.now) new c.begin.result) (sym c.in-Document.is)
      (takes_event A (event.Begin n m) said_to_begin _ new c.begin.result
      (subst (λ (h : g.row.R.Denot). Does (λ s. Some (on_document s n (begun_document A m))) always (true ≡ true) said_to_begin
      (g.R.Records.shows h) new c.begin.result) c.self.view_is c.begin.ensures.taken)
      (g.met.R.Records.rests_last c.begin.new.records)
      (λ head body moment is. absurd (let other = is in cc)));
}
