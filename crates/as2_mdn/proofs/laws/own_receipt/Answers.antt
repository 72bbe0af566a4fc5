use Rattle.as2_mdn.proofs.OwnReceipt.{reports_typed, read, of_one}
use Rattle.as2_mdn.proofs.laws.own_receipt.Goals as goal

pub returns-clause-typed : goal.returns-clause-typed
returns-clause-typed c = reports_typed

pub returns-clause-read : goal.returns-clause-read
returns-clause-read c = read

pub returns-clause-of_one : goal.returns-clause-of_one
returns-clause-of_one c = of_one
