use Rattle.std.proofs.Common.{◌≡◌, ◌∙◌, Some, sym, ap, subst}
use Rattle.as2_exchange.specs.OwedReceipts.{begun_receipt}
use Rattle.as2_exchange.specs.State.{received_entry}
use Rattle.as2_exchange.specs.Step.{on_received}
use Rattle.as2_exchange.specs.declared.inbox.InEntry.{InEntry}
use Rattle.as2_station.proofs.Acting.{numbered}
use Rattle.as2_station.proofs.Doing.{after_read, as_machine}
use Rattle.as2_station.proofs.owed.begin_receipt.Goals as goal

pub returns-in-Some : goal.returns-in-Some
returns-in-Some g c = record {
  taken =
      let n = c.args.number in
      let e = c.in-Some.entry in
      after_read _ _ _ _ _ (λ s. received_entry s n ≡ Some e) _ _ _ _ _ (λ s known found. sym found ∙ c.in-Some.is) c.in_ok-entry.ensures.found
      (as_machine _ _ _ _ _ _ _ _ _ c.in_ok-entry.ensures.found.is_open (λ s stands found.
      let own = numbered (λ (x : InEntry). x.number) n s.inbox e found in (
        subst (λ k. received_entry s k ≡ Some e) (sym own) found,
        ap (λ k. Some (on_received s k (begun_receipt c.args.agreements.now c.args.moment))) own,
      )) c.begin_found.ensures.taken);
}
