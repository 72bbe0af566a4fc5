use Rattle.std.proofs.Common.{inr, refl}
use Rattle.as2_exchange.specs.declared.answer.Answer.TheVariants.{Delivered, Settled, TryFailed}
use Rattle.as2_station.proofs.Closed.{ends_at, ends_by_receipt}
use Rattle.as2_station.proofs.Doing.{never_full, passed_on, written, unwritten}
use Rattle.as2_station.proofs.closing.end_try.Goals as goal

pub returns-in_err-settle-in-ByReceipt : goal.returns-in_err-settle-in-ByReceipt
returns-in_err-settle-in-ByReceipt g c = record {
  taken =
      passed_on _ _ _ _ _ _ _ _ c.from_residual.ensures.0 c.from_residual.ensures.1
      (unwritten _ _ _ _ _ _ _ _ (Settled c.in-ByReceipt.detail)
      (λ s t stands found is counter. rw c.in-ByReceipt.is (ends_by_receipt s t c.args.entry.now found c.in-ByReceipt.detail c.in-ByReceipt.evidence is))
      (inr c.in_err-settle-in-ByReceipt.ensures.fault)
      (λ s found full. never_full _ c.in_err-settle-in-ByReceipt.ensures.fault full) c.in_err-settle-in-ByReceipt.ensures.settled);
}

pub returns-in_ok-settle-in-ByReceipt : goal.returns-in_ok-settle-in-ByReceipt
returns-in_ok-settle-in-ByReceipt g c = record {
  taken =
      written _ _ _ _ _ _ _ _ _
      (λ s t stands found is counter. rw c.in-ByReceipt.is (ends_by_receipt s t c.args.entry.now found c.in-ByReceipt.detail c.in-ByReceipt.evidence is))
      c.in_ok-settle-in-ByReceipt.ensures.settled;
}

pub returns-in_err-set_out-in-Delivered : goal.returns-in_err-set_out-in-Delivered
returns-in_err-set_out-in-Delivered g c = record {
  taken =
      passed_on _ _ _ _ _ _ _ _ c.from_residual-in_err-set_out-in-Delivered.ensures.0 c.from_residual-in_err-set_out-in-Delivered.ensures.1
      (unwritten _ _ _ _ _ _ _ _ Delivered
      (λ s t stands found is counter. rw c.in-Delivered.is
      (ends_at s t c.args.entry.now found stands c.if-not-entry.false _ Delivered c.in-Delivered.progress refl is))
      (inr c.in_err-set_out-in-Delivered.ensures.fault)
      (λ s found full. never_full _ c.in_err-set_out-in-Delivered.ensures.fault full) c.in_err-set_out-in-Delivered.ensures.set);
}

pub returns-in_ok-set_out-in-Delivered : goal.returns-in_ok-set_out-in-Delivered
returns-in_ok-set_out-in-Delivered g c = record {
  taken =
      written _ _ _ _ _ _ _ _ _
      (λ s t stands found is counter. rw c.in-Delivered.is
      (ends_at s t c.args.entry.now found stands c.if-not-entry.false _ Delivered c.in-Delivered.progress refl is))
      c.in_ok-set_out-in-Delivered.ensures.set;
}

pub returns-in_err-set_out-in-Failed : goal.returns-in_err-set_out-in-Failed
returns-in_err-set_out-in-Failed g c = record {
  taken =
      passed_on _ _ _ _ _ _ _ _ c.from_residual-in_err-set_out-in-Failed.ensures.0 c.from_residual-in_err-set_out-in-Failed.ensures.1
      (unwritten _ _ _ _ _ _ _ _ TryFailed
      (λ s t stands found is counter. rw c.in-Failed.is
      (ends_at s t c.args.entry.now found stands c.if-not-entry.false _ TryFailed c.in-Failed.progress refl is))
      (inr c.in_err-set_out-in-Failed.ensures.fault)
      (λ s found full. never_full _ c.in_err-set_out-in-Failed.ensures.fault full) c.in_err-set_out-in-Failed.ensures.set);
}

pub returns-in_ok-set_out-in-Failed : goal.returns-in_ok-set_out-in-Failed
returns-in_ok-set_out-in-Failed g c = record {
  taken =
      written _ _ _ _ _ _ _ _ _
      (λ s t stands found is counter. rw c.in-Failed.is
      (ends_at s t c.args.entry.now found stands c.if-not-entry.false _ TryFailed c.in-Failed.progress refl is))
      c.in_ok-set_out-in-Failed.ensures.set;
}
