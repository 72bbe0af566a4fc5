-- What a document that stands as successful keeps, where nothing is found of it: the conclusion of `passed_success_is_confirmed`.
use Rattle.std.specs.Prelude.{◌≡◌, Some}
use Rattle.as2_mdn.specs.Verdicts.{Confirms}
use Rattle.as2_mic.specs.Algs.{AllDigests}
use Rattle.as2_exchange.specs.Readings.{Receipt, named_by, value_of}
use Rattle.as2_exchange.specs.declared.outbox.Evidence.{Evidence}
use Rattle.as2_exchange.specs.declared.outbox.OutEntry.{OutEntry}
use Rattle.as2_audit.specs.Faults.{kept_receipt}

-- the evidence of `d` is read as a receipt that names `d` and confirms its content
pub record HasConfirmingReceipt (d : OutEntry) : Type 0 where
  pub evidence : Evidence
  pub kept : d.evidence ≡ Some evidence
  pub receipt : Receipt
  pub read : kept_receipt evidence ≡ Some receipt
  pub names : named_by receipt ≡ value_of d.id
  pub confirms : Confirms AllDigests receipt d.content
