use Rattle.std.proofs.Common.{◌∙◌, Some, inr, sym, ap}
use Rattle.as2_exchange.specs.Readings.{receipt_job}
use Rattle.as2_exchange.specs.Recording.{receipt_out}
use Rattle.as2_exchange.specs.declared.answer.Answer.TheVariants.{Job}
use Rattle.as2_station.proofs.ActingIn.{leaves_in}
use Rattle.as2_station.proofs.OwedTries.{begins_receipt, no_try, not_agreed}
use Rattle.as2_station.proofs.Doing.{over_open, never_full, passed_on, written, unwritten}
use Rattle.as2_station.proofs.owed.begin_found.Goals as goal

pub returns-in-Err : goal.returns-in-Err
returns-in-Err g c = record {
  taken =
      let e = c.args.entry.now in
      over_open _ _ _ _ _ _ c.requires.open
      (λ clean s stands found. ap Some
      (leaves_in s e stands found _ _ (not_agreed c.args.agreements.now c.args.moment e c.in-Err.reason c.in-Err.ensures.refused)));
}

pub returns-in-Some : goal.returns-in-Some
returns-in-Some g c = record {
  taken =
      let e = c.args.entry.now in
      over_open _ _ _ _ _ _ c.requires.open
      (λ clean s stands found. ap Some
      (leaves_in s e stands found _ _
      (no_try c.args.agreements.now c.args.moment e c.in-Ok.partner.now c.in-Some.reason c.in-Ok.ensures.agreed (sym c.try_refusal.ensures ∙ c.in-Some.is))));
}

pub returns-in_err-set_receipt : goal.returns-in_err-set_receipt
returns-in_err-set_receipt g c = record {
  taken =
      let A = c.args.agreements.now in
      let e = c.args.entry.now in
      let p = c.in-Ok.partner.now in
      passed_on _ _ _ _ _ _ _ _ c.from_residual-in_err-set_receipt.ensures.0 c.from_residual-in_err-set_receipt.ensures.1
      (unwritten _ _ _ _ _ _ _ _ (Job (receipt_job e.posted.how (receipt_out A e.number e.posted)))
      (λ s t stands found is counter. begins_receipt A c.args.moment s t e p stands found c.in-Ok.ensures.agreed
      (sym c.try_refusal.ensures ∙ c.in_default.is) (rw c.tried-progress.ensures at is))
      (inr c.in_err-set_receipt.ensures.fault) (λ s found full. never_full _ c.in_err-set_receipt.ensures.fault full) c.in_err-set_receipt.ensures.set);
}

pub returns : goal.returns
returns g c = record {
  taken =
      let A = c.args.agreements.now in
      let e = c.args.entry.now in
      let p = c.in-Ok.partner.now in
      written _ _ _ _ _ _ _ _ _
      (λ s t stands found is counter. rw (c.in_ok-job.ensures.job ∙ ap (λ how. receipt_job how (receipt_out A e.number e.posted)) (sym c.in-Async.is))
      (begins_receipt A c.args.moment s t e p stands found c.in-Ok.ensures.agreed (sym c.try_refusal.ensures ∙ c.in_default.is)
      (rw c.tried-progress.ensures at is)))
      c.in_ok-set_receipt.ensures.set;
}
