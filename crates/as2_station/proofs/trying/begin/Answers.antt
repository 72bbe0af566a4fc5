use Rattle.std.proofs.Common.{◌≡◌, ◌∙◌, Some, sym, ap, subst}
use Rattle.as2_exchange.specs.Documents.{begun_document}
use Rattle.as2_exchange.specs.State.{document}
use Rattle.as2_exchange.specs.Step.{on_document}
use Rattle.as2_exchange.specs.declared.outbox.OutEntry.{OutEntry}
use Rattle.as2_station.proofs.Acting.{numbered}
use Rattle.as2_station.proofs.Doing.{after_read, as_machine}
use Rattle.as2_station.proofs.trying.begin.Goals as goal

pub returns-in-Some : goal.returns-in-Some
returns-in-Some g c = record {
  taken =
      let n = c.args.number in
      let d = c.in-Some.document in
      after_read _ _ _ _ _ (λ s. document s n ≡ Some d) _ _ _ _ _ (λ s known found. sym found ∙ c.in-Some.is) c.in_ok-document.ensures.found
      (as_machine _ _ _ _ _ _ _ _ _ c.in_ok-document.ensures.found.is_open (λ s stands found.
      let own = numbered (λ (x : OutEntry). x.number) n s.outbox d found in (
        subst (λ k. document s k ≡ Some d) (sym own) found,
        ap (λ k. Some (on_document s k (begun_document c.args.agreements.now c.args.moment))) own,
      )) c.begin_found.ensures.taken);
}
