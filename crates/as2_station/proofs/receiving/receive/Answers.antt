use Rattle.std.proofs.Common.{◌≡◌, ◌∙◌, Ok, None, sym, ap, refl}
use Rattle.as2_names.specs.Identifiers.{without_brackets}
use Rattle.as2_mdn.specs.ReportReading.{receipt_reading}
use Rattle.as2_exchange.specs.Readings.{named_by, report_in}
use Rattle.as2_exchange.specs.State.{document_named}
use Rattle.as2_exchange.specs.Documents.{settle}
use Rattle.as2_station.proofs.Doing.{after_read, at_once}
use Rattle.as2_station.proofs.receiving.receive.Goals as goal

pub returns-in-Some : goal.returns-in-Some
unfolding named_by report_in
returns-in-Some g c = record {
  taken = λ A.
      let read : receipt_reading c.args.opened.now.media c.args.body ≡ Ok c.in-Ok.receipt =
      sym (rw (c.deref.ensures.value, c.in_ok-report.ensures) at c.in-Ok.ensures.exact) in
      let id = c.without_brackets-id_value.ensures ∙ ap (λ x. without_brackets x.original_id) c.receipt.view_is in
      rw read (after_read _ _ _ _ _ _ _ _ _ _ _
      (λ s known found. ap (document_named s) (sym id) ∙ sym found ∙ c.in-Some.is) c.in_ok-document.ensures.found (c.settle_named.ensures.taken A));
}

pub returns-in-None : goal.returns-in-None
unfolding named_by settle report_in
returns-in-None g c = record {
  taken = λ A.
      let read : receipt_reading c.args.opened.now.media c.args.body ≡ Ok c.in-Ok.receipt =
      sym (rw (c.deref.ensures.value, c.in_ok-report.ensures) at c.in-Ok.ensures.exact) in
      let id = c.without_brackets-id_value.ensures ∙ ap (λ x. without_brackets x.original_id) c.receipt.view_is in
      rw (read, c.answer-in-None.ensures)
      (after_read _ _ _ _ _ (λ s. document_named s (named_by c.in-Ok.receipt) ≡ None) _ _ _ _ _
      (λ s known found. ap (document_named s) (sym id) ∙ sym found ∙ c.in-None.is)
      c.in_ok-document.ensures.found
      (at_once _ _ _ _ _ _ (λ clean asks. c.in_ok-document.ensures.found.is_open clean) (λ clean s rests none. rw none refl)));
}
