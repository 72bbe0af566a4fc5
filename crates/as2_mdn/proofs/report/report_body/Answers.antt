use Rattle.as2_mdn.proofs.report.report_body.Goals as goal

pub returns-clause-out : goal.returns-clause-out
returns-clause-out c = record {
  number = c.in_ok-boundary.ensures.number;
  from = c.in_ok-notification.ensures.from;
  original_id = c.in_ok-notification.ensures.identifier;
  mic = c.in_ok-notification.ensures.mic;
}
