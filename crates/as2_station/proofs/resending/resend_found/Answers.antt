use Rattle.std.proofs.Common.{◌∙◌, Some, inr, sym, ap}
use Rattle.as2_exchange.specs.declared.answer.Answer.TheVariants.{Resent}
use Rattle.as2_station.proofs.Acting.{leaves}
use Rattle.as2_station.proofs.Resent.{not_resent, resends}
use Rattle.as2_station.proofs.Doing.{over_open, never_full, passed_on, written, unwritten}
use Rattle.as2_station.proofs.resending.resend_found.Goals as goal

pub returns-in-Some : goal.returns-in-Some
returns-in-Some g c = record {
  taken =
      let d = c.args.entry.now in
      over_open _ _ _ _ _ _ c.requires.open
      (λ clean s stands found. ap Some
      (leaves s d stands found _ _ (not_resent c.args.agreements.now c.args.moment d c.in-Some.reason (sym c.refusal_of.ensures ∙ c.in-Some.is))));
}

pub returns-in_err-resend : goal.returns-in_err-resend
returns-in_err-resend g c = record {
  taken =
      let d = c.args.entry.now in
      passed_on _ _ _ _ _ _ _ _ c.from_residual.ensures.0 c.from_residual.ensures.1
      (unwritten _ _ _ _ _ _ _ _ Resent
      (λ s t stands found is counter. resends c.args.agreements.now c.args.moment s t d stands found (sym c.refusal_of.ensures ∙ c.in_default.is) is)
      (inr c.in_err-resend.ensures.fault) (λ s found full. never_full _ c.in_err-resend.ensures.fault full) c.in_err-resend.ensures.resent);
}

pub returns : goal.returns
returns g c = record {
  taken =
      let d = c.args.entry.now in
      written _ _ _ _ _ _ _ _ _
      (λ s t stands found is counter. resends c.args.agreements.now c.args.moment s t d stands found (sym c.refusal_of.ensures ∙ c.in_default.is) is)
      c.in_ok-resend.ensures.resent;
}
