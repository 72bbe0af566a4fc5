use Rattle.std.proofs.Common.{◌∙◌, Some, inr, sym, ap}
use Rattle.as2_exchange.specs.Readings.{document_job}
use Rattle.as2_exchange.specs.declared.answer.Answer.TheVariants.{Job}
use Rattle.as2_station.proofs.Acting.{leaves}
use Rattle.as2_station.proofs.Begun.{begins, no_try, not_agreed}
use Rattle.as2_station.proofs.Doing.{over_open, never_full, passed_on, written, unwritten}
use Rattle.as2_station.proofs.trying.begin_found.Goals as goal

pub returns-in-Err : goal.returns-in-Err
returns-in-Err g c = record {
  taken =
      let d = c.args.entry.now in
      over_open _ _ _ _ _ _ c.requires.open
      (λ clean s stands found. ap Some
      (leaves s d stands found _ _ (not_agreed c.args.agreements.now c.args.moment d c.in-Err.reason c.in-Err.ensures.refused)));
}

pub returns-in-Some : goal.returns-in-Some
returns-in-Some g c = record {
  taken =
      let d = c.args.entry.now in
      over_open _ _ _ _ _ _ c.requires.open
      (λ clean s stands found. ap Some
      (leaves s d stands found _ _
      (no_try c.args.agreements.now c.args.moment d c.in-Ok.partner.now c.in-Some.reason c.in-Ok.ensures.agreed (sym c.try_refusal.ensures ∙ c.in-Some.is))));
}

pub returns-in_err-set_out : goal.returns-in_err-set_out
returns-in_err-set_out g c = record {
  taken =
      let A = c.args.agreements.now in
      let d = c.args.entry.now in
      let p = c.in-Ok.partner.now in
      passed_on _ _ _ _ _ _ _ _ c.from_residual-in_err-set_out.ensures.0 c.from_residual-in_err-set_out.ensures.1
      (unwritten _ _ _ _ _ _ _ _ (Job (document_job A p d.organization d.id d.content))
      (λ s t stands found is counter. begins A c.args.moment s t d p stands found c.in-Ok.ensures.agreed
      (sym c.try_refusal.ensures ∙ c.in_default.is) (rw c.tried-progress.ensures at is))
      (inr c.in_err-set_out.ensures.fault) (λ s found full. never_full _ c.in_err-set_out.ensures.fault full) c.in_err-set_out.ensures.set);
}

pub returns : goal.returns
unfolding document_job
returns g c = record {
  taken =
      let A = c.args.agreements.now in
      let d = c.args.entry.now in
      let p = c.in-Ok.partner.now in
      written _ _ _ _ _ _ _ _ _
      (λ s t stands found is counter. rw c.in_ok-job.ensures.job
      (begins A c.args.moment s t d p stands found c.in-Ok.ensures.agreed (sym c.try_refusal.ensures ∙ c.in_default.is) (rw c.tried-progress.ensures at is)))
      c.in_ok-set_out.ensures.set;
}
