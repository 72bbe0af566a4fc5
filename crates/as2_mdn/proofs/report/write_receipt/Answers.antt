use Rattle.as2_mdn.proofs.OwnReceipt.{its_report}
use Rattle.as2_mdn.proofs.report.write_receipt.Goals as goal

pub returns-clause-own : goal.returns-clause-own
returns-clause-own c = its_report c.args.out.now c.in_ok-report_body.field-0.items c.in_ok-report_body.ensures.text c.in_ok-report_body.ensures.out
