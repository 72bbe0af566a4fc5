use Rattle.std.proofs.Common.{◌∙◌}
use Rattle.as2_mdn.proofs.ReportReading.{found_by, again}
use Rattle.as2_mdn.proofs.report_reader.read_report.Goals as goal

pub returns-clause-found : goal.returns-clause-found
returns-clause-found c = found_by c.args.media.now c.args.body.now c.read.result c.read.ensures

pub returns-clause-only : goal.returns-clause-only
returns-clause-only c receipt r = c.read.ensures ∙ again c.args.media.now c.args.body.now receipt r
