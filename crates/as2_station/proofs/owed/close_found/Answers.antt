use Rattle.std.proofs.Common.{Some, inr, sym, ap}
use Rattle.as2_exchange.specs.Receipts.{is_delivery}
use Rattle.as2_station.specs.OwedTries.{end_answer}
use Rattle.as2_station.proofs.ActingIn.{leaves_in}
use Rattle.as2_station.proofs.OwedTries.{ends_receipt, no_open_try, not_agreed_then, sent_before}
use Rattle.as2_station.proofs.Doing.{over_open, never_full, passed_on, written, unwritten}
use Rattle.as2_station.proofs.owed.close_found.Goals as goal

pub returns-in-Err : goal.returns-in-Err
returns-in-Err g c = record {
  taken =
      let e = c.args.entry.now in
      over_open _ _ _ _ _ _ c.requires.open
      (λ clean s stands found. ap Some
      (leaves_in s e stands found _ _ (not_agreed_then c.args.agreements.now c.args.answer.now c.args.moment e c.in-Err.reason c.in-Err.ensures.refused)));
}

pub returns-then-not-is_pending : goal.returns-then-not-is_pending
returns-then-not-is_pending g c = record {
  taken =
      let e = c.args.entry.now in
      over_open _ _ _ _ _ _ c.requires.open
      (λ clean s stands found. ap Some
      (leaves_in s e stands found _ _
      (sent_before c.args.agreements.now c.args.answer.now c.args.moment e c.in-Ok.partner.now c.in-Ok.ensures.agreed (sym c.if-not-is_pending.ensures))));
}

pub returns-then-is_shut : goal.returns-then-is_shut
returns-then-is_shut g c = record {
  taken =
      let e = c.args.entry.now in
      over_open _ _ _ _ _ _ c.requires.open
      (λ clean s stands found. ap Some
      (leaves_in s e stands found _ _
      (no_open_try c.args.agreements.now c.args.answer.now c.args.moment e c.in-Ok.partner.now c.in-Ok.ensures.agreed
      (sym c.if-not-is_pending.ensures) (sym c.if-is_shut.ensures))));
}

pub returns-in_err-set_receipt : goal.returns-in_err-set_receipt
returns-in_err-set_receipt g c = record {
  taken =
      let A = c.args.agreements.now in
      let e = c.args.entry.now in
      let got = c.args.answer.now in
      passed_on _ _ _ _ _ _ _ _ c.from_residual.ensures.0 c.from_residual.ensures.1
      (unwritten _ _ _ _ _ _ _ _ (end_answer (is_delivery got))
      (λ s t stands found is counter. ends_receipt A got c.args.moment s t e c.in-Ok.partner.now stands found c.in-Ok.ensures.agreed
      (sym c.if-not-is_pending.ensures) (sym c.if-is_shut.ensures) (rw (c.after_try.ensures, c.is_delivery-delivered.ensures) at is))
      (inr c.in_err-set_receipt.ensures.fault) (λ s found full. never_full _ c.in_err-set_receipt.ensures.fault full) c.in_err-set_receipt.ensures.set);
}

pub returns : goal.returns
returns g c = record {
  taken =
      let A = c.args.agreements.now in
      let e = c.args.entry.now in
      let got = c.args.answer.now in
      written _ _ _ _ _ _ _ _ _
      (λ s t stands found is counter. rw (c.end_became.ensures, c.is_delivery-delivered.ensures)
      (ends_receipt A got c.args.moment s t e c.in-Ok.partner.now stands found c.in-Ok.ensures.agreed (sym c.if-not-is_pending.ensures)
      (sym c.if-is_shut.ensures) (rw (c.after_try.ensures, c.is_delivery-delivered.ensures) at is)))
      c.in_ok-set_receipt.ensures.set;
}
